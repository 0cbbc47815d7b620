-- The blocks of a region after a batch: its part written over those before, and the same blocks where the batch doesn't touch it.
use Rattle.std.proofs.Common.{◌≡◌, ℕ, suc, ◌+◌, ◌*◌, ◌<◌, ◌≤◌, ◌∙◌, false, ◌==◌, List, [], ◌∷◌, length, get_or, drop, None, inl, inr, refl, ap, sym, subst, arith}
use Rattle.std.specs.Prelude.{unwrap_or}
use Rattle.std.proofs.lemmas.Bool.{cases_eq, eq-eqb, ne_eqb, or_parts, false≢true}
use Rattle.std.proofs.lemmas.List.{length-drop, get_or-take, get_or-drop, same_lists, length-take-le}
use Rattle.std.proofs.lemmas.Nat.{div-mul-add, pow_pos}
use native.Mathlib.Nat.{mul-le-mul_right, suc-mul, div-lt_iff_lt-mul}
use Rattle.salus_types.specs.Volume.{Shape, regions, region_blocks, blocks}
use Rattle.salus_types.specs.declared.records.Write.{Write}
use Rattle.volume_model.specs.Contents.{Batch, apply, blocks_in, region_of}
use Rattle.volume_model.specs.Parts.{bytes_left, writes_in, touches}
use Rattle.holding_model.specs.Fitting.{blocks_written}
use Rattle.law_lemmas.proofs.Written.{length-apply, applied-at, written, length-blocks_written}

module _ (shape : Shape) where
  -- a block of the volume lies in one of its regions
  pub in_region : (b : ℕ) → b < blocks shape → region_of shape b < regions shape
  in_region b inside = (div-lt_iff_lt-mul {k = region_blocks shape} {x = b} {y = regions shape} (pow_pos shape.height)).1 inside

  pub region_fits : (g : ℕ) → g < regions shape → region_blocks shape + g * region_blocks shape ≤ blocks shape
  region_fits g inside =
      let fits : suc g * region_blocks shape ≤ regions shape * region_blocks shape = mul-le-mul_right (region_blocks shape) inside in
      let same : suc g * region_blocks shape ≡ g * region_blocks shape + region_blocks shape = suc-mul g (region_blocks shape) in
      omega arith

  pub length-blocks_in : (contents : List (List ℕ)) (g : ℕ) → length contents ≡ blocks shape → g < regions shape → length (blocks_in shape contents g) ≡ region_blocks shape
  length-blocks_in contents g n inside =
      let fits = region_fits g inside in
      length-take-le (region_blocks shape) (drop (g * region_blocks shape) contents) (rw (length-drop (g * region_blocks shape) contents, n) (omega arith))

  pub blocks_in-at : (contents : List (List ℕ)) (g i : ℕ) (d : List ℕ) → i < region_blocks shape
      → get_or (blocks_in shape contents g) i d ≡ get_or contents (g * region_blocks shape + i) d
  blocks_in-at contents g i d within =
      get_or-take (region_blocks shape) (drop (g * region_blocks shape) contents) i d within ∙ get_or-drop (g * region_blocks shape) contents i d

  module _ (contents : List (List ℕ)) (n : length contents ≡ blocks shape) (batch : Batch) (g : ℕ) (inside : g < regions shape) where
    applied_length : length (apply contents batch) ≡ blocks shape
    applied_length = length-apply batch contents ∙ n

    applied_in-at : (i : ℕ) (d : List ℕ) → i < region_blocks shape
        → get_or (blocks_in shape (apply contents batch) g) i d
        ≡ unwrap_or (bytes_left batch (g * region_blocks shape + i)) (get_or (blocks_in shape contents g) i d)
    applied_in-at i d within =
        let fits = region_fits g inside in
        let there : g * region_blocks shape + i < length contents = omega arith in
        blocks_in-at (apply contents batch) g i d within
        ∙ (applied-at batch contents (g * region_blocks shape + i) d there
        ∙ ap (unwrap_or (bytes_left batch (g * region_blocks shape + i))) (sym (blocks_in-at contents g i d within)))

    pub part_written : blocks_written (blocks_in shape contents g) (writes_in shape batch g) ≡ blocks_in shape (apply contents batch) g
    part_written =
        let long = length-blocks_in contents g n inside in
        let wide = length-blocks_in (apply contents batch) g applied_length inside in
        same_lists _ _ (length-blocks_written (writes_in shape batch g) (blocks_in shape contents g) ∙ (long ∙ sym wide))
        (λ k d h.
        let within : k < length (blocks_in shape contents g) = subst (λ l. k < l) (length-blocks_written (writes_in shape batch g) (blocks_in shape contents g)) h in
        let low : k < region_blocks shape = subst (λ l. k < l) long within in
        (written (region_blocks shape) 0 (λ i. bytes_left batch (g * region_blocks shape + i)) (blocks_in shape contents g) k d within).there (omega arith) (omega arith)
        ∙ sym (applied_in-at k d low))

  left_cons : (w : Write) (batch : Batch) (b g : ℕ) → region_of shape b ≡ g → (region_of shape w.block == g) ≡ false
      → bytes_left batch b ≡ None → bytes_left (w ∷ batch) b ≡ None
  unfolding bytes_left
  left_cons w batch b g of other none = elim (cases_eq w.block b) [
    | inl e ↦ absurd (false≢true (sym other ∙ eq-eqb (region_of shape w.block) g (ap (region_of shape) e ∙ of)))
    | inr apart ↦ rw (ne_eqb w.block b apart, none) refl
  ]

  left_none : (batch : Batch) (b g : ℕ) → region_of shape b ≡ g → touches shape batch g ≡ false → bytes_left batch b ≡ None
  unfolding bytes_left
  left_none [] b g of none = refl
  left_none (w ∷ batch) b g of none =
      let parts = or_parts _ _ none in
      left_cons w batch b g of parts.0 (left_none batch b g of parts.1)

  pub untouched : (contents : List (List ℕ)) → length contents ≡ blocks shape → (batch : Batch) (g : ℕ) → g < regions shape
      → touches shape batch g ≡ false → blocks_in shape (apply contents batch) g ≡ blocks_in shape contents g
  untouched contents n batch g inside none =
      let long = length-blocks_in contents g n inside in
      let wide = length-blocks_in (apply contents batch) g (length-apply batch contents ∙ n) inside in
      same_lists _ _ (wide ∙ sym long)
      (λ k d h.
      let low : k < region_blocks shape = subst (λ l. k < l) wide h in
      applied_in-at contents n batch g inside k d low
      ∙ ap (λ o. unwrap_or o (get_or (blocks_in shape contents g) k d)) (left_none batch (g * region_blocks shape + k) g (div-mul-add g (region_blocks shape) k low) none))
