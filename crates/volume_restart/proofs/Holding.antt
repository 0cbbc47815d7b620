-- What a pool keeps after some of the bases and parts of a node were added.
use Rattle.std.proofs.Common.{◌≡◌, ℕ, ◌+◌, ◌<◌, ◌≤◌, ◌∙◌, Bool, true, false, List, [], ◌∷◌, ◌++◌, length, map, take, get_or, refl, sym, ap}
use Rattle.std.specs.Prelude.{filter}
use Rattle.std.proofs.lemmas.Bool.{cond-true, cond-false}
use Rattle.std.proofs.lemmas.List.{append_assoc, map-append, append-nil, take_all, take_more}
use Rattle.std.proofs.lemmas.List.Elements.{filter-append}
use Rattle.salus_types.specs.declared.records.Header.{Header}
use Rattle.salus_types.specs.declared.records.Record.{Record}
use Rattle.salus_types.specs.declared.records.Base.{Base}
use Rattle.salus_types.specs.declared.records.Held.{Held}
use Rattle.volume_model.specs.Recovering.{base_counts, record_counts}
use Rattle.client_rules.specs.Opening.{with_held}
use Rattle.restart_pool.specs.Kept.{Kept, with_base, with_part}

-- after these bases
abbrev pub with_bases : List ℕ → Kept → List Base → Kept
with_bases key kept bases = record {
  shape = kept.shape;
  held = record {
    bases = kept.held.bases ++ filter (λ base. base_counts kept.shape key base) bases;
    parts = kept.held.parts;
    headers = kept.held.headers ++ map (λ (base : Base). base.rec.header) (filter (λ base. base_counts kept.shape key base) bases);
  };
}

-- after these parts
abbrev pub with_parts : List ℕ → Kept → List Record → Kept
with_parts key kept parts = record {
  shape = kept.shape;
  held = record {
    bases = kept.held.bases;
    parts = kept.held.parts ++ filter (λ rec. record_counts kept.shape key rec) parts;
    headers = kept.held.headers ++ map (λ (rec : Record). rec.header) (filter (λ rec. record_counts kept.shape key rec) parts);
  };
}

module _ (key : List ℕ) (kept : Kept) where
  pub no-bases : kept ≡ with_bases key kept []
  no-bases = rw (append-nil kept.held.bases, append-nil kept.held.headers) refl

  pub no-parts : kept ≡ with_parts key kept []
  no-parts = rw (append-nil kept.held.parts, append-nil kept.held.headers) refl

-- ---- one more

module _ {A : Type 0} (p : A → Bool) (old : List A) (x : A) where
  passes : p x ≡ true → filter p (old ++ x ∷ []) ≡ filter p old ++ x ∷ []
  passes is = filter-append p old (x ∷ []) ∙ ap (λ ys. filter p old ++ ys) (cond-true (p x) (x ∷ []) [] is)

  fails : p x ≡ false → filter p (old ++ x ∷ []) ≡ filter p old
  fails is = filter-append p old (x ∷ []) ∙ (ap (λ ys. filter p old ++ ys) (cond-false (p x) (x ∷ []) [] is) ∙ append-nil (filter p old))

  kept_more : (ks : List A) → p x ≡ true → (ks ++ filter p old) ++ x ∷ [] ≡ ks ++ filter p (old ++ x ∷ [])
  kept_more ks is = append_assoc ks (filter p old) (x ∷ []) ∙ ap (λ ys. ks ++ ys) (sym (passes is))

  heads_more : {B : Type 0} (f : A → B) (hs : List B) → p x ≡ true → (hs ++ map f (filter p old)) ++ f x ∷ [] ≡ hs ++ map f (filter p (old ++ x ∷ []))
  heads_more f hs is =
      append_assoc hs (map f (filter p old)) (f x ∷ []) ∙ ap (λ ys. hs ++ ys) (sym (ap (map f) (passes is) ∙ map-append f (filter p old) (x ∷ [])))

module _ (key : List ℕ) (kept : Kept) where
  abbrev made : List Base → List Record → List Header → Kept
  made bases parts headers = record { shape = kept.shape; held = record { bases = bases; parts = parts; headers = headers } }

  abbrev base_test : Base → Bool
  base_test base = base_counts kept.shape key base

  abbrev part_test : Record → Bool
  part_test rec = record_counts kept.shape key rec

  base_by : (old : List Base) (x : Base) (t : Bool) → base_test x ≡ t → with_base key (with_bases key kept old) x ≡ with_bases key kept (old ++ x ∷ [])
  base_by old x true is =
      cond-true (base_test x) _ (with_bases key kept old) is
      ∙ (ap (λ bs. made bs kept.held.parts ((kept.held.headers ++ map (λ (b : Base). b.rec.header) (filter base_test old)) ++ x.rec.header ∷ [])) (kept_more base_test old x kept.held.bases is)
      ∙ ap (λ hs. made (kept.held.bases ++ filter base_test (old ++ x ∷ [])) kept.held.parts hs) (heads_more base_test old x (λ (b : Base). b.rec.header) kept.held.headers is))
  base_by old x false is =
      cond-false (base_test x) _ (with_bases key kept old) is
      ∙ ap (λ bs. made (kept.held.bases ++ bs) kept.held.parts (kept.held.headers ++ map (λ (b : Base). b.rec.header) bs)) (sym (fails base_test old x is))

  pub base-more : (bases : List Base) (i : ℕ) (x : Base) → i < length bases → x ≡ get_or bases i x
      → with_base key (with_bases key kept (take i bases)) x ≡ with_bases key kept (take (i + 1) bases)
  base-more bases i x lt is =
      base_by (take i bases) x (base_test x) refl ∙ ap (with_bases key kept) (ap (λ y. take i bases ++ y ∷ []) is ∙ sym (take_more bases i x lt))

  part_by : (old : List Record) (x : Record) (t : Bool) → part_test x ≡ t → with_part key (with_parts key kept old) x ≡ with_parts key kept (old ++ x ∷ [])
  part_by old x true is =
      cond-true (part_test x) _ (with_parts key kept old) is
      ∙ (ap (λ ps. made kept.held.bases ps ((kept.held.headers ++ map (λ (r : Record). r.header) (filter part_test old)) ++ x.header ∷ [])) (kept_more part_test old x kept.held.parts is)
      ∙ ap (λ hs. made kept.held.bases (kept.held.parts ++ filter part_test (old ++ x ∷ [])) hs) (heads_more part_test old x (λ (r : Record). r.header) kept.held.headers is))
  part_by old x false is =
      cond-false (part_test x) _ (with_parts key kept old) is
      ∙ ap (λ ps. made kept.held.bases (kept.held.parts ++ ps) (kept.held.headers ++ map (λ (r : Record). r.header) ps)) (sym (fails part_test old x is))

  pub part-more : (parts : List Record) (i : ℕ) (x : Record) → i < length parts → x ≡ get_or parts i x
      → with_part key (with_parts key kept (take i parts)) x ≡ with_parts key kept (take (i + 1) parts)
  part-more parts i x lt is =
      part_by (take i parts) x (part_test x) refl ∙ ap (with_parts key kept) (ap (λ y. take i parts ++ y ∷ []) is ∙ sym (take_more parts i x lt))

  -- all bases and then all parts
  pub with-all : (held : Held) (i j : ℕ) → length held.bases ≤ i → length held.parts ≤ j
      → (with_parts key (with_bases key kept (take i held.bases)) (take j held.parts)).held ≡ with_held kept.shape key held kept.held
  with-all held i j les more =
      rw (take_all i held.bases les, take_all j held.parts more)
      (ap (λ hs. (made (kept.held.bases ++ filter base_test held.bases) (kept.held.parts ++ filter part_test held.parts) hs).held)
      (append_assoc kept.held.headers (map (λ (b : Base). b.rec.header) (filter base_test held.bases)) (map (λ (r : Record). r.header) (filter part_test held.parts))))
