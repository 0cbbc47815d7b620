-- What a path opens of a subtree.
use Rattle.std.specs.Prelude.{◌≡◌, ℕ, zero, suc, ◌-◌, ◌^◌, nat_lt, if◌then◌else◌, List, [], slice_index_or, take}
use Rattle.merkle_region.specs.Tree.{climb}
use Rattle.merkle_pruned.specs.Subtree.{Subtree, Closed, Opened, closed_over}

-- the tree of a path of h digests: open from its top to the leaf, and closed beside it
unfoldable pub path_subtree : ℕ → ℕ → List ℕ → List (List ℕ) → Subtree
path_subtree zero i leaf path = Closed leaf
path_subtree (suc h) i leaf path =
    if nat_lt i (2 ^ h)
    then Opened (path_subtree h i leaf path) (Closed (slice_index_or path h []))
    else Opened (Closed (slice_index_or path h [])) (path_subtree h (i - 2 ^ h) leaf path)

-- a subtree whose closed part over the place is opened along the path; what was open stays
abbrev pub grafted : Subtree → ℕ → ℕ → List ℕ → List (List ℕ) → Subtree
grafted (Closed digest) h i leaf path = path_subtree h i leaf path
grafted (Opened left right) h i leaf path =
    if nat_lt i (2 ^ (h - 1))
    then Opened (grafted left (h - 1) i leaf path) right
    else Opened left (grafted right (h - 1) (i - 2 ^ (h - 1)) leaf path)

-- the leaf climbs to the digest of the closed subtree over its place
abbrev pub Meets : Subtree → ℕ → ℕ → List ℕ → List (List ℕ) → Type 0
Meets tree h i leaf path = (closed_over tree h i).1 ≡ climb i leaf (take (closed_over tree h i).0 path)
