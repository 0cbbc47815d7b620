-- What the side of a place tells, and the tree of a path from the halves that it is built of.
use Rattle.std.proofs.Common.{◌≡◌, ℕ, ◌-◌, ◌^◌, ◌<◌, ◌≤◌, Option, None, Some, List, [], length, get_or, nat_lt, if◌then◌else◌, inl, inr, arith}
use Rattle.std.proofs.lemmas.Bool.{cases_lt, cond-true, cond-false, lt-ltb, le-ltb}
use Rattle.std.proofs.lemmas.List.{get_or_read}
use Rattle.merkle_pruned.specs.Subtree.{Subtree, Closed, Opened}
use Rattle.merkle_pruned.specs.Path.{path_subtree}
use Rattle.merkle_pruned.proofs.Opening.{path_subtree-low, path_subtree-high}

abbrev pub side : ℕ → ℕ → Option ℕ
side h i = if nat_lt i (2 ^ (h - 1)) then None else Some (i - 2 ^ (h - 1))

in_left : (h i : ℕ) → None ≡ side h i → i < 2 ^ (h - 1)
in_left h i e = elim (cases_lt i (2 ^ (h - 1))) [
  | inl below ↦ below
  | inr above ↦ let other = cond-false (nat_lt i (2 ^ (h - 1))) None (Some (i - 2 ^ (h - 1))) (le-ltb i (2 ^ (h - 1)) above) in cc
]

in_right_half : (h i j : ℕ) → Some j ≡ side h i → (2 ^ (h - 1) ≤ i) × (j ≡ i - 2 ^ (h - 1))
in_right_half h i j e = elim (cases_lt i (2 ^ (h - 1))) [
  | inl below ↦ let other = cond-true (nat_lt i (2 ^ (h - 1))) None (Some (i - 2 ^ (h - 1))) (lt-ltb i (2 ^ (h - 1)) below) in cc
  | inr above ↦ let other = cond-false (nat_lt i (2 ^ (h - 1))) None (Some (i - 2 ^ (h - 1))) (le-ltb i (2 ^ (h - 1)) above) in (above, cc)
]

module _ (h i : ℕ) (leaf : List ℕ) (path : List (List ℕ)) (above : 0 < h) (levels : h ≤ length path) (digest : List ℕ)
    (read : digest ≡ get_or path (h - 1) digest) (half sibling node : Subtree) (beside : sibling ≡ Closed digest) where
  at_level : digest ≡ get_or path (h - 1) []
  at_level = get_or_read path (h - 1) digest (omega arith) read []

  pub built_left : None ≡ side h i → half ≡ path_subtree (h - 1) i leaf path → node ≡ Opened half sibling → node ≡ path_subtree h i leaf path
  built_left e lower whole =
      let tree = path_subtree-low h i leaf path above (in_left h i e) in
      let here = at_level in
      cc

  pub built_right : (j : ℕ) → Some j ≡ side h i → half ≡ path_subtree (h - 1) j leaf path → node ≡ Opened sibling half → node ≡ path_subtree h i leaf path
  built_right j e lower whole =
      let place = in_right_half h i j e in
      let tree = path_subtree-high h i leaf path above place.0 in
      let here = at_level in
      cc
