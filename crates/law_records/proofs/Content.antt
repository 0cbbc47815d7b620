-- A part isn't empty: of a region that the batch touches some block is written.
use Rattle.std.proofs.Common.{◌≡◌, ℕ, ◌+◌, ◌*◌, ◌<◌, ◌∙◌, true, ◌==◌, if◌then◌else◌, List, [], ◌∷◌, None, Option, Some, is_some, inl, inr, refl, ap, sym, arith}
use Rattle.std.specs.Prelude.{filter_map}
use Rattle.std.specs.List.{range_with_len, cons_option}
use Rattle.std.specs.Option.{option_or}
use Rattle.std.proofs.lemmas.Bool.{eq-eqb, eqb-true, false≢true}
use Rattle.std.proofs.lemmas.Nat.{pow_pos}
use native.Mathlib.Nat.{mod-lt, div-add-mod'}
use Rattle.salus_types.specs.Volume.{Shape, region_blocks}
use Rattle.salus_types.specs.declared.records.PlaceWrite.{PlaceWrite}
use Rattle.salus_types.specs.declared.records.Record.{Record}
use Rattle.salus_types.specs.declared.records.Write.{Write}
use Rattle.merkle_region.specs.Tree.{IsAmong}
use Rattle.holding_model.specs.Fitting.{has_content}
use Rattle.volume_model.specs.Contents.{Batch, region_of, place_of}
use Rattle.volume_model.specs.Parts.{Session, touches, bytes_left, placed, writes_in, batch_at, part_of}
use Rattle.salus_model.specs.Forgery.{IsPartOf}
use Rattle.list_lemmas.proofs.Members.{any_among, among_range-in}

some_or : {A : Type 0} (o p : Option A) → is_some p ≡ true → is_some (option_or o p) ≡ true
some_or None p is = is
some_or (Some x) p is = refl

some_before : {A : Type 0} (o p : Option A) → is_some o ≡ true → is_some (option_or o p) ≡ true
some_before None p is = absurd (false≢true is)
some_before (Some x) p is = refl

-- a block that the batch writes is left with bytes
left_some : (batch : Batch) (w : Write) (b : ℕ) → IsAmong w batch → w.block ≡ b → is_some (bytes_left batch b) ≡ true
unfolding bytes_left
left_some [] w b m at = absurd m
left_some (v ∷ batch) w b (inl e) at =
    some_or (bytes_left batch b) (if v.block == b then Some v.bytes else None)
    (ap (λ t. is_some (if t then Some v.bytes else None)) (eq-eqb v.block b (sym (ap (λ (x : Write). x.block) e) ∙ at)))
left_some (v ∷ batch) w b (inr m) at = some_before (bytes_left batch b) (if v.block == b then Some v.bytes else None) (left_some batch w b m at)

some_placed : (i : ℕ) (o : Option (List ℕ)) → is_some o ≡ true → is_some (placed i o) ≡ true
some_placed i None is = is
some_placed i (Some bytes) is = refl

-- the list that is left has a first one
abbrev HasFirst : {A : Type 0} → List A → Type 0
HasFirst [] = ⊥
HasFirst (x ∷ xs) = Unit {0}

first_kept : {A B : Type 0} (f : A → Option B) (xs : List A) (x : A) → IsAmong x xs → is_some (f x) ≡ true → HasFirst (filter_map f xs)
first_kept f [] x m is = absurd m
first_kept f (y ∷ xs) x (inl e) is = here (f y) (sym (ap (λ z. is_some (f z)) e) ∙ is) where
  here : (o : Option _) → is_some o ≡ true → HasFirst (cons_option o (filter_map f xs))
  here None none = absurd (false≢true none)
  here (Some z) some = tt
first_kept f (y ∷ xs) x (inr m) is = there (f y) (first_kept f xs x m is) where
  there : (o : Option _) → HasFirst (filter_map f xs) → HasFirst (cons_option o (filter_map f xs))
  there None rest = rest
  there (Some z) rest = tt

module _ (shape : Shape) where
  first_written : (batch : Batch) (g : ℕ) → touches shape batch g ≡ true → HasFirst (writes_in shape batch g)
  first_written batch g touched =
      let w = any_among (λ (w : Write). region_of shape w.block == g) batch touched in
      let b : ℕ = w.0.block in
      let region : region_of shape b ≡ g = eqb-true (region_of shape b) g w.2 in
      let low : place_of shape b < region_blocks shape = mod-lt b (pow_pos shape.height) in
      let whole : region_of shape b * region_blocks shape + place_of shape b ≡ b = div-add-mod' b (region_blocks shape) in
      let at : b ≡ g * region_blocks shape + place_of shape b = sym whole ∙ ap (λ r. r * region_blocks shape + place_of shape b) region in
      first_kept (λ i. placed i (bytes_left batch (g * region_blocks shape + i))) (range_with_len 0 (region_blocks shape)) (place_of shape b)
      (among_range-in (region_blocks shape) 0 (place_of shape b) (omega arith) (omega (arith, low)))
      (some_placed (place_of shape b) (bytes_left batch (g * region_blocks shape + place_of shape b)) (left_some batch w.0 (g * region_blocks shape + place_of shape b) w.1 at))

  content_of : (writes : List PlaceWrite) → HasFirst writes → has_content writes None ≡ true
  content_of [] first = absurd first
  content_of (w ∷ writes) first = refl

  -- what is written of a batch in a region that it touches
  pub written-content : (batch : Batch) (g : ℕ) → touches shape batch g ≡ true → has_content (writes_in shape batch g) None ≡ true
  written-content batch g touched = content_of (writes_in shape batch g) (first_written batch g touched)

  of_part : (key : List ℕ) (known : Session) (s g : ℕ) → touches shape (batch_at known s) g ≡ true
      → has_content (part_of shape key known s g).writes (part_of shape key known s g).run ≡ true
  unfolding part_of
  of_part key known s g touched = written-content (batch_at known s) g touched

  pub part-content : (key : List ℕ) (known : Session) (g : ℕ) (rec : Record) → IsPartOf shape key known g rec → has_content rec.writes rec.run ≡ true
  part-content key known g rec part = ap (λ r. has_content r.writes r.run) part.is ∙ of_part key known part.s g part.touched
