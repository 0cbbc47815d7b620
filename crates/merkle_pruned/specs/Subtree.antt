-- A subtree of a region's tree: closed, where its digest alone is known, or opened into its two halves.
use Rattle.std.specs.Prelude.{◌≡◌, ℕ, ◌-◌, ◌^◌, ◌<◌, nat_lt, if◌then◌else◌, List, [], ◌∷◌, ◌++◌, length, take, drop}
use Rattle.std.proofs.Common.{ap}
use base.Stored.{Gv, gnil, gnum, gcons, Coded, coded_list, coded_ℕ}
use Rattle.salus_hash.specs.Hash.{inner, inner_string}
use Rattle.merkle_region.specs.Tree.{root_of}

pub data Subtree : Type 0 where
  Closed : List ℕ → Subtree
  Opened : Subtree → Subtree → Subtree

-- the digest of a subtree
abbrev pub digest_of : Subtree → List ℕ
digest_of (Closed digest) = digest
digest_of (Opened left right) = inner (digest_of left) (digest_of right)

-- the strings that are hashed for the digests of opened subtrees
abbrev pub opened_strings : Subtree → List (List ℕ)
opened_strings (Closed digest) = []
opened_strings (Opened left right) = inner_string (digest_of left) (digest_of right) ∷ opened_strings left ++ opened_strings right

-- the closed subtree that a place lies in, in a subtree of this height: how high it is, and its digest. An open leaf has height 0
abbrev pub closed_over : Subtree → ℕ → ℕ → ℕ × List ℕ
closed_over (Closed digest) h i = (h, digest)
closed_over (Opened left right) h i =
    if nat_lt i (2 ^ (h - 1)) then closed_over left (h - 1) i else closed_over right (h - 1) (i - 2 ^ (h - 1))

-- each closed subtree has the digest of its blocks
abbrev pub AgreesOn : Subtree → ℕ → List (List ℕ) → Type 0
AgreesOn (Closed digest) h blocks = digest ≡ root_of h blocks
AgreesOn (Opened left right) h blocks =
    (0 < h) × AgreesOn left (h - 1) (take (2 ^ (h - 1)) blocks) × AgreesOn right (h - 1) (drop (2 ^ (h - 1)) blocks)

-- no subtree is opened below the leaves, and each digest has 32 bytes
abbrev pub IsSound : Subtree → ℕ → Type 0
IsSound (Closed digest) h = length digest ≡ 32
IsSound (Opened left right) h = (0 < h) × IsSound left (h - 1) × IsSound right (h - 1)

-- the subtree with another leaf at an open place
abbrev pub with_leaf : Subtree → ℕ → ℕ → List ℕ → Subtree
with_leaf (Closed digest) h i leaf = Closed leaf
with_leaf (Opened left right) h i leaf =
    if nat_lt i (2 ^ (h - 1))
    then Opened (with_leaf left (h - 1) i leaf) right
    else Opened left (with_leaf right (h - 1) (i - 2 ^ (h - 1)) leaf)

abbrev first : Gv → Gv
first gnil = gnil
first (gnum n) = gnil
first (gcons a b) = a

abbrev rest : Gv → Gv
rest gnil = gnil
rest (gnum n) = gnil
rest (gcons a b) = b

-- different subtrees have different codes
abbrev code_of : Subtree → Gv
code_of (Closed digest) = gcons gnil ((coded_list coded_ℕ).code digest)
code_of (Opened left right) = gcons (gnum 0) (gcons (code_of left) (code_of right))

pub code_of-inj : (p q : Subtree) → code_of p ≡ code_of q → p ≡ q
code_of-inj (Closed d) (Closed e) same = ap Closed ((coded_list coded_ℕ).inj d e (ap rest same))
code_of-inj (Closed d) (Opened l r) same = cc
code_of-inj (Opened l r) (Closed d) same = cc
code_of-inj (Opened l r) (Opened m s) same =
    λ i. Opened (code_of-inj l m (ap (λ g. first (rest g)) same) i) (code_of-inj r s (ap (λ g. rest (rest g)) same) i)

abbrev pub subtree_code : Coded Subtree
subtree_code = record { code = code_of; inj = code_of-inj }
