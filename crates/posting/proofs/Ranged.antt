-- Loops that post to one receiver after another.
use Rattle.std.proofs.Common.{◌≡◌, ◌∙◌, ℕ, ◌+◌, List, [], ◌∷◌, ◌++◌, map, refl, sym, ap, append_assoc, append-nil, arith}
use Rattle.std.specs.Prelude.{flat_map}
use Rattle.std.specs.List.{range_with_len}
use Rattle.std.proofs.lemmas.List.{map-append}
use Rattle.std.proofs.lemmas.Grind.{flat_map-append}
use Rattle.std.proofs.lemmas.List.FromFn.{map-range_with_len_more}

map_id : (xs : List ℕ) → map (λ x. x) xs ≡ xs
map_id [] = refl
map_id (x ∷ xs) = ap (λ l. x ∷ l) (map_id xs)

range_more : (n : ℕ) → range_with_len 0 (n + 1) ≡ range_with_len 0 n ++ n ∷ []
range_more n =
    sym (map_id (range_with_len 0 (n + 1))) ∙ map-range_with_len_more (λ x. x) 0 n n (omega arith) ∙ ap (λ l. l ++ n ∷ []) (map_id (range_with_len 0 n))

module _ {A : Type 0} (before now new : List A) where
  -- one more
  pub posted-more : (f : ℕ → A) (n : ℕ) → now ≡ before ++ map f (range_with_len 0 n) → new ≡ now ++ f n ∷ [] → new ≡ before ++ map f (range_with_len 0 (n + 1))
  posted-more f n is more =
      more ∙ ap (λ l. l ++ f n ∷ []) is ∙ append_assoc before (map f (range_with_len 0 n)) (f n ∷ [])
      ∙ ap (λ l. before ++ l) (sym (map-range_with_len_more f 0 n n (omega arith)))

  -- one more group
  pub groups-more : {B : Type 0} (group : ℕ → List B) (f : B → A) (n : ℕ) → now ≡ before ++ map f (flat_map group (range_with_len 0 n)) → new ≡ now ++ map f (group n)
      → new ≡ before ++ map f (flat_map group (range_with_len 0 (n + 1)))
  groups-more group f n is more =
      let grown : flat_map group (range_with_len 0 (n + 1)) ≡ flat_map group (range_with_len 0 n) ++ group n =
      ap (λ l. flat_map group l) (range_more n) ∙ flat_map-append group (range_with_len 0 n) (n ∷ []) ∙ ap (λ l. flat_map group (range_with_len 0 n) ++ l) (append-nil (group n)) in
      more ∙ ap (λ l. l ++ map f (group n)) is ∙ append_assoc before (map f (flat_map group (range_with_len 0 n))) (map f (group n))
      ∙ ap (λ l. before ++ l) (sym (ap (λ l. map f l) grown ∙ map-append f (flat_map group (range_with_len 0 n)) (group n)))

  -- a group by its numbers
  pub posted-all : {B : Type 0} (name : ℕ → B) (f : B → A) (n count : ℕ) → n ≡ count → now ≡ before ++ map (λ r. f (name r)) (range_with_len 0 n) → now ≡ before ++ map f (map name (range_with_len 0 count))
  posted-all name f n count end is = is ∙ ap (λ k. before ++ map (λ r. f (name r)) (range_with_len 0 k)) end ∙ ap (λ l. before ++ l) (sym (map_map (range_with_len 0 count)))
    where
      map_map : (xs : List ℕ) → map f (map name xs) ≡ map (λ r. f (name r)) xs
      map_map [] = refl
      map_map (x ∷ xs) = ap (λ l. f (name x) ∷ l) (map_map xs)
