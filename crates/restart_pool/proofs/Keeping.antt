-- What a pool keeps of its invariant when something is added.
use Rattle.std.proofs.Common.{◌≡◌, ℕ, ◌∙◌, true, ◌&&◌, List, [], ◌∷◌, ◌++◌, None, inl, inr, ap, sym, subst, bytes_eq}
use Rattle.std.proofs.lemmas.List.{map-append}
use Rattle.std.proofs.lemmas.Bool.{and_parts}
use Rattle.std.proofs.lemmas.Slice.Eq.{bytes_eq-Decides}
use Rattle.salus_types.specs.Volume.{Shape}
use Rattle.salus_types.specs.declared.records.Record.{Record}
use Rattle.salus_types.specs.declared.records.Base.{Base}
use Rattle.merkle_region.specs.Tree.{root_of, IsAmong}
use Rattle.merkle_region.proofs.Membership.{among_either}
use Rattle.holding_model.specs.Fitting.{has_shape}
use Rattle.volume_model.specs.Recovering.{base_counts, record_counts}
use Rattle.restart_pool.specs.Kept.{IsKept}

module _ (shape : Shape) (bases : List Base) (parts : List Record) (numbers : List ℕ) (kept : IsKept shape bases parts numbers) where
  plain_more : (rec : Record) → rec.run ≡ None → (r : Record) → IsAmong r (parts ++ rec ∷ []) → r.run ≡ None
  plain_more rec plain r m = elim (among_either r parts (rec ∷ []) m) [
    | inl a ↦ kept.plain r a
    | inr (inl e) ↦ subst (λ (w : Record). w.run ≡ None) (sym e) plain
    | inr (inr b) ↦ absurd b
  ]

  pub kept-part : (rec : Record) → rec.run ≡ None → IsKept shape bases (parts ++ rec ∷ []) (numbers ++ rec.header.seq ∷ [])
  kept-part rec plain = record {
    indexed = ap (λ ns. ns ++ rec.header.seq ∷ []) kept.indexed ∙ sym (map-append (λ (r : Record). r.header.seq) parts (rec ∷ []));
    shaped = kept.shaped;
    rooted = kept.rooted;
    plain = plain_more rec plain;
  }

  shaped_more : (base : Base) → has_shape shape base.blocks ≡ true → (b : Base) → IsAmong b (bases ++ base ∷ []) → has_shape shape b.blocks ≡ true
  shaped_more base shaped b m = elim (among_either b bases (base ∷ []) m) [
    | inl a ↦ kept.shaped b a
    | inr (inl e) ↦ subst (λ (w : Base). has_shape shape w.blocks ≡ true) (sym e) shaped
    | inr (inr f) ↦ absurd f
  ]

  rooted_more : (base : Base) → root_of shape.height base.blocks ≡ base.rec.header.root → (b : Base) → IsAmong b (bases ++ base ∷ []) → root_of shape.height b.blocks ≡ b.rec.header.root
  rooted_more base rooted b m = elim (among_either b bases (base ∷ []) m) [
    | inl a ↦ kept.rooted b a
    | inr (inl e) ↦ subst (λ (w : Base). root_of shape.height w.blocks ≡ w.rec.header.root) (sym e) rooted
    | inr (inr f) ↦ absurd f
  ]

  pub kept-base : (key : List ℕ) (base : Base) → base_counts shape key base ≡ true → IsKept shape (bases ++ base ∷ []) parts numbers
  kept-base key base counts =
      let both = and_parts (record_counts shape key base.rec && has_shape shape base.blocks) (bytes_eq (root_of shape.height base.blocks) base.rec.header.root) counts in
      let two = and_parts (record_counts shape key base.rec) (has_shape shape base.blocks) both.0 in
      record {
        indexed = kept.indexed;
        shaped = shaped_more base two.1;
        rooted = rooted_more base ((bytes_eq-Decides (root_of shape.height base.blocks) base.rec.header.root).0 both.1);
        plain = kept.plain;
      }
