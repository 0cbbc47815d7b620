-- The roots of the regions of contents that are the regions' blocks, one after the other.
use Rattle.std.proofs.Common.{◌≡◌, ◌∙◌, ℕ, suc, ◌+◌, ◌*◌, List, [], ◌∷◌, ◌++◌, map, length, take, drop, refl, sym, ap, ap₂, subst, arith, add-one}
use Rattle.std.specs.List.{AllByRecursion, range_with_len}
use Rattle.std.proofs.lemmas.List.{append_assoc, length-append}
use Rattle.std.proofs.Math.Seq.{drop-append_seam, take-append_seam}
use Rattle.salus_types.specs.Volume.{Shape, regions, region_blocks}
use Rattle.merkle_region.specs.Tree.{root_of}
use Rattle.volume_model.specs.Contents.{blocks_in, region_root, roots_of}
use Rattle.restart_pool.specs.Assembled.{joined}
use Rattle.session_opening.specs.Gathered.{IsShaped}
use native.Mathlib.Nat.{suc-mul}

module _ (shape : Shape) where
  -- a region's blocks between those before and those after them
  between : (before x after : List (List ℕ)) (a : ℕ) → length before ≡ a * region_blocks shape → length x ≡ region_blocks shape → blocks_in shape (before ++ (x ++ after)) a ≡ x
  between before x after a low long =
      ap (λ k. take (region_blocks shape) (drop k (before ++ (x ++ after)))) (sym low)
      ∙ (ap (take (region_blocks shape)) (drop-append_seam before (x ++ after)) ∙ (ap (λ k. take k (x ++ after)) (sym long) ∙ take-append_seam x after))

  roots_from : (pick : List (List (List ℕ))) (before : List (List ℕ)) (a : ℕ) → length before ≡ a * region_blocks shape → AllByRecursion (IsShaped shape) pick
      → map (λ g. region_root shape (before ++ joined pick) g) (range_with_len a (length pick)) ≡ map (root_of shape.height) pick
  roots_from [] before a low each = refl
  roots_from (x ∷ pick) before a low each =
      let here = between before x (joined pick) a low each.0.0 in
      let next : (a + 1) * region_blocks shape ≡ a * region_blocks shape + region_blocks shape = ap (λ k. k * region_blocks shape) (add-one a) ∙ suc-mul a (region_blocks shape) in
      let more : length (before ++ x) ≡ (a + 1) * region_blocks shape = length-append before x ∙ (ap₂ (λ m n. m + n) low each.0.0 ∙ sym next) in
      let rest = roots_from pick (before ++ x) (a + 1) more each.1 in
      ap₂ (λ r rs. r ∷ rs) (ap (root_of shape.height) here)
      (subst (λ bs. map (λ g. region_root shape bs g) (range_with_len (a + 1) (length pick)) ≡ map (root_of shape.height) pick) (append_assoc before x (joined pick)) rest)

  pub roots_joined : (pick : List (List (List ℕ))) → length pick ≡ regions shape → AllByRecursion (IsShaped shape) pick → roots_of shape (joined pick) ≡ map (root_of shape.height) pick
  roots_joined pick count each =
      let none : 0 ≡ 0 * region_blocks shape = omega arith in
      subst (λ n. map (λ g. region_root shape (joined pick) g) (range_with_len 0 n) ≡ map (root_of shape.height) pick) count (roots_from pick [] 0 none each)
