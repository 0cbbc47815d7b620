-- The top of a volume: one digest over the roots of its regions.
use Rattle.std.specs.Prelude.{ℕ, zero, suc, ◌^◌, List, [], ◌∷◌, ◌++◌, take, drop, slice_index_or}
use Rattle.sha2.specs.Sha256.{sha256}

-- the string whose digest is that of two neighbours in the tree over the regions
abbrev pub above_string : List ℕ → List ℕ → List ℕ
above_string left right = 2 ∷ left ++ right

-- the top over 2 ^ k roots: the one root, or the digest of the two halves' tops
unfoldable pub top_of : ℕ → List (List ℕ) → List ℕ
top_of zero roots = slice_index_or roots 0 []
top_of (suc k) roots = sha256 (above_string (top_of k (take (2 ^ k) roots)) (top_of k (drop (2 ^ k) roots)))

-- every string whose digest that top takes
unfoldable pub top_strings : ℕ → List (List ℕ) → List (List ℕ)
top_strings zero roots = []
top_strings (suc k) roots =
    above_string (top_of k (take (2 ^ k) roots)) (top_of k (drop (2 ^ k) roots))
    ∷ top_strings k (take (2 ^ k) roots) ++ top_strings k (drop (2 ^ k) roots)
