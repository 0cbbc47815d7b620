-- The three ways in which Salus hashes. SHA-256 is FIPS 180-4; leaf and inner are RFC 6962, section 2.1.
use Rattle.std.specs.Prelude.{ℕ, List, ◌∷◌, ◌++◌}
use Rattle.sha2.specs.Sha256.{sha256}

-- the string whose digest is that of a block
abbrev pub leaf_string : List ℕ → List ℕ
leaf_string block = 0 ∷ block

-- the string whose digest is that of two neighbours in a region's tree
abbrev pub inner_string : List ℕ → List ℕ → List ℕ
inner_string left right = 1 ∷ left ++ right

abbrev pub leaf : List ℕ → List ℕ
leaf block = sha256 (leaf_string block)

abbrev pub inner : List ℕ → List ℕ → List ℕ
inner left right = sha256 (inner_string left right)

-- the same one floor up, in the tree of a volume, whose leaves are the regions' roots
abbrev pub above : List ℕ → List ℕ → List ℕ
above left right = sha256 (2 ∷ left ++ right)
