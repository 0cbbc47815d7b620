-- The tree of a region: its root, the path of a block, and the strings that are hashed for both.
use Rattle.std.specs.Prelude.{◌≡◌, ◌⊎◌, ℕ, zero, suc, ◌-◌, ◌/◌, ◌%◌, ◌^◌, ◌<◌, Bool, ◌==◌, ◌&&◌, nat_lt, if◌then◌else◌, List, [], ◌∷◌, ◌++◌, length, take, drop, slice_get, slice_index_or, Some}
use Rattle.std.specs.Str.{bytes_eq}
use Rattle.sha2.specs.Sha256.{sha256}
use Rattle.salus_hash.specs.Hash.{leaf, leaf_string, inner, inner_string}

-- the block at a place, and the empty block where there is none
abbrev pub block_at : List (List ℕ) → ℕ → List ℕ
block_at blocks i = slice_index_or blocks i []

-- the root over 2 ^ height blocks: the one block's leaf, or the inner digest of the two halves' roots (RFC 6962, section 2.1)
unfoldable pub root_of : ℕ → List (List ℕ) → List ℕ
root_of zero blocks = leaf (block_at blocks 0)
root_of (suc h) blocks = inner (root_of h (take (2 ^ h) blocks)) (root_of h (drop (2 ^ h) blocks))

-- every string whose digest that tree takes
unfoldable pub tree_strings : ℕ → List (List ℕ) → List (List ℕ)
tree_strings zero blocks = leaf_string (block_at blocks 0) ∷ []
tree_strings (suc h) blocks =
    inner_string (root_of h (take (2 ^ h) blocks)) (root_of h (drop (2 ^ h) blocks))
    ∷ tree_strings h (take (2 ^ h) blocks) ++ tree_strings h (drop (2 ^ h) blocks)

-- what is hashed for the parent of a digest and its sibling: at an even place the digest is the left child
abbrev pub parent_string : ℕ → List ℕ → List ℕ → List ℕ
parent_string i digest sibling = if i % 2 == 0 then inner_string digest sibling else inner_string sibling digest

abbrev pub parent : ℕ → List ℕ → List ℕ → List ℕ
parent i digest sibling = sha256 (parent_string i digest sibling)

-- a digest that climbs a path from a place; the parent of place i is at place i / 2 one level up
unfoldable pub climb : ℕ → List ℕ → List (List ℕ) → List ℕ
climb i digest [] = digest
climb i digest (sibling ∷ rest) = climb (i / 2) (parent i digest sibling) rest

-- every string that is hashed on the way up
unfoldable pub climb_strings : ℕ → List ℕ → List (List ℕ) → List (List ℕ)
climb_strings i digest [] = []
climb_strings i digest (sibling ∷ rest) = parent_string i digest sibling ∷ climb_strings (i / 2) (parent i digest sibling) rest

-- every string that is hashed for a block and its path
abbrev pub path_strings : ℕ → List ℕ → List (List ℕ) → List (List ℕ)
path_strings i block path = leaf_string block ∷ climb_strings i (leaf block) path

-- the path has a digest for each level, and the block's leaf climbs it to the root
pub record Verifies (root : List ℕ) (height i : ℕ) (block : List ℕ) (path : List (List ℕ)) : Type 0 where
  pub levels : length path ≡ height
  pub climbs : climb i (leaf block) path ≡ root

-- the same as a test
abbrev pub verified : List ℕ → ℕ → ℕ → List ℕ → List (List ℕ) → Bool
verified root height i block path = (length path == height) && bytes_eq (climb i (leaf block) path) root

-- the path of a place: the roots of the subtrees beside the way to it, from the leaf upwards
unfoldable pub path_from : ℕ → List (List ℕ) → ℕ → List (List ℕ)
path_from zero blocks i = []
path_from (suc h) blocks i =
    if nat_lt i (2 ^ h)
    then path_from h (take (2 ^ h) blocks) i ++ root_of h (drop (2 ^ h) blocks) ∷ []
    else path_from h (drop (2 ^ h) blocks) (i - 2 ^ h) ++ root_of h (take (2 ^ h) blocks) ∷ []

-- x stands in the list
abbrev pub IsAmong : {A : Type 0} → A → List A → Type 0
IsAmong x [] = ⊥
IsAmong x (y ∷ ys) = (x ≡ y) ⊎ IsAmong x ys

-- no two different strings of the list have one SHA-256 digest
abbrev pub NoTwoCollide : List (List ℕ) → Type 0
NoTwoCollide strings = (x y : List ℕ) → IsAmong x strings → IsAmong y strings → sha256 x ≡ sha256 y → x ≡ y

-- where the root is that of 2 ^ height blocks, and none of the strings of their tree and of the path collide, the block stands at its place
unfoldable pub Carries : List ℕ → ℕ → ℕ → List ℕ → List (List ℕ) → Type 0
Carries root height i block path =
    (blocks : List (List ℕ)) → length blocks ≡ 2 ^ height → i < 2 ^ height → root ≡ root_of height blocks
    → NoTwoCollide (tree_strings height blocks ++ path_strings i block path) → slice_get blocks i ≡ Some block
