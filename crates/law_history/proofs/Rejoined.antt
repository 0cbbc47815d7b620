-- The regions' blocks, one after the other, are the contents.
use Rattle.std.proofs.Common.{◌≡◌, ℕ, zero, suc, ◌+◌, ◌*◌, ◌∙◌, List, [], ◌∷◌, ◌++◌, length, take, drop, ap, sym, arith, add-one}
use Rattle.std.specs.Prelude.{flat_map}
use Rattle.std.specs.List.{range_with_len}
use Rattle.std.proofs.lemmas.List.{take_all, drop-drop}
use Rattle.salus_types.specs.Volume.{Shape, regions, region_blocks, blocks}
use Rattle.volume_model.specs.Contents.{all_regions, blocks_in}
use native.Mathlib.Nat.{suc-mul}

-- the first m of a list, and the first n of what is left
take_two : {A : Type 0} (m n : ℕ) (xs : List A) → take m xs ++ take n (drop m xs) ≡ take (m + n) xs
take_two zero n xs = let same : n ≡ 0 + n = omega arith in ap (λ k. take k xs) same
take_two (suc m) zero [] = let same : suc m + 0 ≡ suc m = omega arith in sym (ap (λ k. take k []) same)
take_two (suc m) (suc n) [] = let same : suc m + suc n ≡ suc (m + suc n) = omega arith in sym (ap (λ k. take k []) same)
take_two (suc m) n (x ∷ xs) = let same : suc (m + n) ≡ suc m + n = omega arith in ap (λ l. x ∷ l) (take_two m n xs) ∙ ap (λ k. take k (x ∷ xs)) same

module _ (shape : Shape) (contents : List (List ℕ)) where
  joined_from : (n a : ℕ) → flat_map (λ g. blocks_in shape contents g) (range_with_len a n) ≡ take (n * region_blocks shape) (drop (a * region_blocks shape) contents)
  joined_from zero a = let none : 0 * region_blocks shape ≡ 0 = omega arith in sym (ap (λ k. take k (drop (a * region_blocks shape) contents)) none)
  joined_from (suc n) a =
      let next : (a + 1) * region_blocks shape ≡ a * region_blocks shape + region_blocks shape = ap (λ k. k * region_blocks shape) (add-one a) ∙ suc-mul a (region_blocks shape) in
      let whole : region_blocks shape + n * region_blocks shape ≡ suc n * region_blocks shape = let s = suc-mul n (region_blocks shape) in omega arith in
      ap (λ l. blocks_in shape contents a ++ l) (joined_from n (a + 1))
      ∙ (ap (λ k. blocks_in shape contents a ++ take (n * region_blocks shape) (drop k contents)) next
      ∙ (ap (λ l. blocks_in shape contents a ++ take (n * region_blocks shape) l) (sym (drop-drop (region_blocks shape) (a * region_blocks shape) contents))
      ∙ (take_two (region_blocks shape) (n * region_blocks shape) (drop (a * region_blocks shape) contents)
      ∙ ap (λ k. take k (drop (a * region_blocks shape) contents)) whole)))

  pub rejoined : length contents ≡ blocks shape → flat_map (λ g. blocks_in shape contents g) (all_regions shape) ≡ contents
  rejoined n =
      let none : 0 * region_blocks shape ≡ 0 = omega arith in
      joined_from (regions shape) 0
      ∙ (ap (λ k. take (regions shape * region_blocks shape) (drop k contents)) none
      ∙ take_all (regions shape * region_blocks shape) contents (omega arith))
