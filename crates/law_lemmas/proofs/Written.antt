-- What a batch leaves at each block, and what its part leaves at each place of a region.
use Rattle.std.proofs.Common.{◌≡◌, ℕ, zero, suc, ◌+◌, ◌<◌, ◌≤◌, ◌∙◌, Bool, true, false, ◌==◌, if◌then◌else◌, List, [], ◌∷◌, length, get_or, Option, None, Some, inl, inr, refl, ap, sym, subst, arith}
use Rattle.std.specs.Prelude.{filter_map, unwrap_or, slice_set}
use Rattle.std.specs.List.{range_with_len}
use Rattle.std.specs.Option.{option_or}
use Rattle.std.proofs.lemmas.Bool.{cases_eq, eq-eqb, ne_eqb}
use Rattle.std.proofs.lemmas.List.{length-set, get_or-set_same, get_or-set_other}
use Rattle.salus_types.specs.Volume.{blocks}
use Rattle.salus_types.specs.declared.records.PlaceWrite.{PlaceWrite}
use Rattle.volume_model.specs.Contents.{Batch, apply}
use Rattle.volume_model.specs.Parts.{bytes_left, placed}
use Rattle.holding_model.specs.Fitting.{blocks_written}

-- ---- a batch

pub length-apply : (batch : Batch) (contents : List (List ℕ)) → length (apply contents batch) ≡ length contents
unfolding apply
length-apply [] contents = refl
length-apply (w ∷ batch) contents = length-apply batch (slice_set contents w.block w.bytes) ∙ length-set contents w.block w.bytes

-- one write more in front
left_more : (o : Option (List ℕ)) (t : Bool) (x y : List ℕ) → unwrap_or o (if t then x else y) ≡ unwrap_or (option_or o (if t then Some x else None)) y
left_more (Some z) t x y = refl
left_more None true x y = refl
left_more None false x y = refl

set_tested : (contents : List (List ℕ)) (i b : ℕ) (x d : List ℕ) → b < length contents
    → get_or (slice_set contents i x) b d ≡ (if i == b then x else get_or contents b d)
set_tested contents i b x d within = elim (cases_eq i b) [
  | inl e ↦ rw (eq-eqb i b e) (rw e (get_or-set_same contents b x d within))
  | inr other ↦ rw (ne_eqb i b other) (get_or-set_other contents i b x d (λ e. other (sym e)))
]

pub applied-at : (batch : Batch) (contents : List (List ℕ)) (b : ℕ) (d : List ℕ) → b < length contents
    → get_or (apply contents batch) b d ≡ unwrap_or (bytes_left batch b) (get_or contents b d)
unfolding apply bytes_left
applied-at [] contents b d within = refl
applied-at (w ∷ batch) contents b d within =
    applied-at batch (slice_set contents w.block w.bytes) b d (rw (length-set contents w.block w.bytes) within)
    ∙ (ap (unwrap_or (bytes_left batch b)) (set_tested contents w.block b w.bytes d within)
    ∙ left_more (bytes_left batch b) (w.block == b) w.bytes (get_or contents b d))

-- ---- a part

abbrev pub Left : Type 0
Left = ℕ → Option (List ℕ)

abbrev pub part_from : Left → ℕ → ℕ → List PlaceWrite
part_from left a n = filter_map (λ i. placed i (left i)) (range_with_len a n)

-- below its first place nothing changes, and at its places is what it leaves
pub record IsWritten (left : Left) (a n : ℕ) (blocks : List (List ℕ)) (i : ℕ) (d : List ℕ) : Type 0 where
  pub below : i < a → get_or (blocks_written blocks (part_from left a n)) i d ≡ get_or blocks i d
  pub there : a ≤ i → i < a + n → get_or (blocks_written blocks (part_from left a n)) i d ≡ unwrap_or (left i) (get_or blocks i d)

abbrev pub WrittenFrom : Left → ℕ → ℕ → Type 0
WrittenFrom left a n = (blocks : List (List ℕ)) (i : ℕ) (d : List ℕ) → i < length blocks → IsWritten left a n blocks i d

written_step : (left : Left) (a n : ℕ) (o : Option (List ℕ)) → left a ≡ o → WrittenFrom left (a + 1) n → WrittenFrom left a (suc n)
unfolding blocks_written
written_step left a n None is rest = λ blocks i d within.
    let more = rest blocks i d within in
    record {
      below = λ b. rw is (more.below (omega arith));
      there = λ low high. elim (cases_eq i a) [
        | inl e ↦ rw is (more.below (omega arith) ∙ sym (ap (λ o. unwrap_or o (get_or blocks i d)) (ap left e ∙ is)))
        | inr other ↦ let above : a + 1 ≤ i = omega arith in rw is (more.there above (omega arith))
      ];
    }
written_step left a n (Some x) is rest = λ blocks i d within.
    let more = rest (slice_set blocks a x) i d (rw (length-set blocks a x) within) in
    record {
      below = λ b.
          let other : i ≡ a → ⊥ = λ e. absurd (omega arith) in
          rw is (more.below (omega arith) ∙ get_or-set_other blocks a i x d other);
      there = λ low high. elim (cases_eq i a) [
        | inl e ↦ rw is (more.below (omega arith)
            ∙ (ap (λ j. get_or (slice_set blocks a x) j d) e
            ∙ (get_or-set_same blocks a x d (subst (λ j. j < length blocks) e within)
            ∙ sym (ap (λ o. unwrap_or o (get_or blocks i d)) (ap left e ∙ is)))))
        | inr other ↦
            let above : a + 1 ≤ i = omega arith in
            rw is (more.there above (omega arith) ∙ ap (unwrap_or (left i)) (get_or-set_other blocks a i x d other))
      ];
    }

pub written : (n a : ℕ) (left : Left) → WrittenFrom left a n
unfolding blocks_written
written zero a left = λ blocks i d within. record { below = λ b. refl; there = λ low high. absurd (omega arith) }
written (suc n) a left = written_step left a n (left a) refl (written n (a + 1) left)

pub length-blocks_written : (writes : List PlaceWrite) (blocks : List (List ℕ)) → length (blocks_written blocks writes) ≡ length blocks
unfolding blocks_written
length-blocks_written [] blocks = refl
length-blocks_written (w ∷ writes) blocks = length-blocks_written writes (slice_set blocks w.place w.bytes) ∙ length-set blocks w.place w.bytes
