-- The roots over blocks that are all equal.
use Rattle.std.proofs.Common.{◌≡◌, ◌∙◌, ℕ, zero, suc, ◌+◌, ◌*◌, ◌-◌, ◌^◌, ◌<◌, ◌≤◌, List, ◌∷◌, length, map, take, drop, replicate, refl, sym, ap, ap₂, add-one, arith}
use Rattle.std.specs.List.{range_with_len}
use Rattle.std.proofs.Math.Nat.{pow-suc, mul-le-mul_right}
use Rattle.std.proofs.lemmas.List.{take-replicate, drop-replicate, length-replicate}
use Rattle.salus_types.specs.Volume.{Shape, regions, region_blocks, blocks}
use Rattle.salus_hash.specs.Hash.{leaf, inner}
use Rattle.merkle_region.specs.Tree.{root_of}
use Rattle.volume_model.specs.Contents.{zero_contents, blocks_in, region_root, roots_of}

twice : (h : ℕ) (block root : List ℕ) → root ≡ root_of h (replicate (2 ^ h) block) → inner root root ≡ root_of (suc h) (replicate (2 ^ suc h) block)
unfolding root_of
twice h block root is =
    let double : 2 ^ suc h ≡ 2 ^ h * 2 = pow-suc 2 h in
    let low : take (2 ^ h) (replicate (2 ^ suc h) block) ≡ replicate (2 ^ h) block = take-replicate (2 ^ h) (2 ^ suc h) block (omega arith) in
    let half : 2 ^ suc h - 2 ^ h ≡ 2 ^ h = omega arith in
    let high : drop (2 ^ h) (replicate (2 ^ suc h) block) ≡ replicate (2 ^ h) block = drop-replicate (2 ^ h) (2 ^ suc h) block ∙ ap (λ n. replicate n block) half in
    ap₂ inner (is ∙ ap (root_of h) (sym low)) (is ∙ ap (root_of h) (sym high))

-- no level
pub lone_root : (block root : List ℕ) → root ≡ leaf block → root ≡ root_of 0 (replicate (2 ^ 0) block)
unfolding root_of
lone_root block root is = is

-- one level more
pub doubled : (h : ℕ) (block root above : List ℕ) → root ≡ root_of h (replicate (2 ^ h) block) → above ≡ inner root root → above ≡ root_of (h + 1) (replicate (2 ^ (h + 1)) block)
doubled h block root above is parent = parent ∙ rw add-one (twice h block root is)

-- what is the same at each number of a range
same_each : {X : Type 0} (f : ℕ → X) (x : X) (a n : ℕ) → ((g : ℕ) → g < a + n → f g ≡ x) → map f (range_with_len a n) ≡ replicate n x
same_each f x a zero same = refl
same_each f x a (suc n) same = ap₂ (λ y ys. y ∷ ys) (same a (omega arith)) (same_each f x (a + 1) n (λ g below. same g (omega arith)))

module _ (shape : Shape) where
  -- each region of zero blocks is as many of them as it has
  zero_region : (g : ℕ) → g < regions shape → blocks_in shape (zero_contents shape) g ≡ replicate (region_blocks shape) (replicate shape.block 0)
  zero_region g inside =
      let block : List ℕ = replicate shape.block 0 in
      let room : suc g * region_blocks shape ≤ regions shape * region_blocks shape = mul-le-mul_right (region_blocks shape) inside in
      let one : suc g * region_blocks shape ≡ g * region_blocks shape + region_blocks shape = omega arith in
      ap (take (region_blocks shape)) (drop-replicate (g * region_blocks shape) (blocks shape) block)
      ∙ take-replicate (region_blocks shape) (blocks shape - g * region_blocks shape) block (omega arith)

  pub zero_roots_are : (root : List ℕ) → root ≡ root_of shape.height (replicate (2 ^ shape.height) (replicate shape.block 0)) → roots_of shape (zero_contents shape) ≡ replicate (regions shape) root
  zero_roots_are root is =
      same_each (λ g. region_root shape (zero_contents shape) g) root 0 (regions shape) (λ g below. ap (root_of shape.height) (zero_region g (omega arith)) ∙ sym is)

  pub zero_count : length (zero_contents shape) ≡ blocks shape
  zero_count = length-replicate (blocks shape) (replicate shape.block 0)
