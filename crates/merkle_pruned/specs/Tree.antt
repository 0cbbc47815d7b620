-- A pruned tree, what it knows of a region's blocks, and what each change keeps of that.
use Rattle.std.specs.Prelude.{◌≡◌, ℕ, ◌^◌, ◌<◌, ◌≢◌, List, ◌++◌, length, slice_set, refl}
use Rattle.std.specs.Coded.{Coded, code_by, coded×, coded_ℕ}
use Rattle.salus_hash.specs.Hash.{leaf}
use Rattle.merkle_region.specs.Tree.{tree_strings, climb, climb_strings, NoTwoCollide}
use Rattle.merkle_pruned.specs.Subtree.{Subtree, subtree_code, digest_of, opened_strings, closed_over, AgreesOn}

-- the tree of a region of 2 ^ height blocks, as far as it is known
pub record PrunedTree : Type 0 where
  pub height : ℕ
  pub tree : Subtree

abbrev pub tree_code : Coded PrunedTree
tree_code = code_by (ℕ × Subtree) (coded× coded_ℕ subtree_code) (λ t. (t.height, t.tree)) (λ p. record { height = p.0; tree = p.1 }) (λ _. refl)

abbrev pub root_digest : PrunedTree → List ℕ
root_digest t = digest_of t.tree

-- the closed subtree that a place lies in: how high it is, and its digest
abbrev pub over : PrunedTree → ℕ → ℕ × List ℕ
over t i = closed_over t.tree t.height i

-- no subtree above the leaf at this place is closed
abbrev pub IsOpen : PrunedTree → ℕ → Type 0
IsOpen t i = (over t i).0 ≡ 0

abbrev pub leaf_at : PrunedTree → ℕ → List ℕ
leaf_at t i = (over t i).1

-- these are all blocks of the region, and each open leaf and each closed subtree has the digest of its blocks
pub record Agrees (t : PrunedTree) (blocks : List (List ℕ)) : Type 0 where
  pub full : length blocks ≡ 2 ^ t.height
  pub known : AgreesOn t.tree t.height blocks

-- the second tree has another leaf at an open place, and all else as it was
pub record LeafSet (before : PrunedTree) (i : ℕ) (digest : List ℕ) (after : PrunedTree) : Type 0 where
  pub height : after.height ≡ before.height
  pub there : over after i ≡ (0, digest)
  pub elsewhere : (j : ℕ) → j < 2 ^ before.height → j ≢ i → over after j ≡ over before j
  -- it agrees with every list that the first agrees with, with a block of that digest in place
  pub agrees : (blocks : List (List ℕ)) (block : List ℕ) → Agrees before blocks → leaf block ≡ digest → Agrees after (slice_set blocks i block)

-- the path leads from the leaf at its place to the tree's root
abbrev pub Climbs : PrunedTree → ℕ → List ℕ → List (List ℕ) → Type 0
Climbs t i digest path = climb i digest path ≡ root_digest t

-- no two different strings of the opened subtrees and of the path share a digest
abbrev pub IsApart : PrunedTree → ℕ → List ℕ → List (List ℕ) → Type 0
IsApart t i digest path = NoTwoCollide (opened_strings t.tree ++ climb_strings i digest path)

-- the second tree is the first, opened along a path
pub record Grafted (before : PrunedTree) (i : ℕ) (digest : List ℕ) (path : List (List ℕ)) (after : PrunedTree) : Type 0 where
  pub height : after.height ≡ before.height
  -- the path is open, and its leaf is there
  pub there : over after i ≡ (0, digest)
  -- what was open stays as it was
  pub stays : (j : ℕ) → j < 2 ^ before.height → j ≢ i → IsOpen before j → over after j ≡ over before j
  -- where the path leads to the root and no strings collide, the root stays, and so does the leaf where it was open
  pub root : Climbs before i digest path → IsApart before i digest path → root_digest after ≡ root_digest before
  pub leaf : Climbs before i digest path → IsApart before i digest path → IsOpen before i → leaf_at before i ≡ digest
  -- it then agrees with no list but those that the first agrees with
  pub agreed : Climbs before i digest path → IsApart before i digest path → (blocks : List (List ℕ)) → Agrees after blocks → Agrees before blocks
  -- and with each of those of which no two different strings of its tree and of the path share a digest
  pub agrees : Climbs before i digest path → (blocks : List (List ℕ)) → NoTwoCollide (tree_strings before.height blocks ++ climb_strings i digest path)
      → Agrees before blocks → Agrees after blocks
