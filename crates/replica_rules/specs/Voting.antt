-- Who voted and claimed.
use Rattle.std.specs.Prelude.{ℕ, ◌%◌, Bool, true, false, ◌==◌, ◌&&◌, nat_lt, nat_le, if◌then◌else◌, List, [], ◌∷◌, map, bytes_eq, Option, None, Some}
use Rattle.std.specs.List.{list_all}
use Rattle.salus_types.specs.Volume.{Shape}
use Rattle.salus_types.specs.declared.names.NodeName.{NodeName}
use Rattle.volume_model.specs.Contents.{all_regions}
use Rattle.volume_model.specs.Groups.{same_node, group_of}

-- ---- votes

-- the number and the root that a node voted for
pub record Vote : Type 0 where
  pub seq : ℕ
  pub root : List ℕ

-- The vote that is kept of a node for a number. Numbers that are the same modulo 16 share one place, in which the vote
-- for the greatest of them stands, and of two for one number the first.
abbrev pub Votes : Type 0
Votes = NodeName → ℕ → Option Vote

abbrev pub no_votes : Votes
no_votes name x = None

abbrev pub share_place : ℕ → ℕ → Bool
share_place x y = x % 16 == y % 16

-- the number is above that of the vote that is kept
abbrev pub is_above_vote : ℕ → Option Vote → Bool
is_above_vote x None = true
is_above_vote x (Some vote) = nat_lt vote.seq x

abbrev pub with_vote : Votes → NodeName → ℕ → List ℕ → Votes
with_vote votes name seq root other x =
    if same_node other name && share_place x seq && is_above_vote seq (votes other x) then Some (record { seq = seq; root = root }) else votes other x

abbrev pub root_in : ℕ → Option Vote → Option (List ℕ)
root_in x None = None
root_in x (Some vote) = if vote.seq == x then Some vote.root else None

abbrev pub is_root : List ℕ → Option (List ℕ) → Bool
is_root root None = false
is_root root (Some other) = bytes_eq root other

-- all are there, and the same
abbrev pub all_one : List (Option (List ℕ)) → Bool
all_one [] = true
all_one (None ∷ roots) = false
all_one (Some root ∷ roots) = list_all (λ other. is_root root other) roots

-- every replica of the region has voted for that number, with one root
abbrev pub is_unanimous_in : Shape → Votes → ℕ → ℕ → Bool
is_unanimous_in shape votes x g = all_one (map (λ name. root_in x (votes name x)) (group_of shape g))

-- so of each of these regions
abbrev pub is_unanimous : Shape → Votes → ℕ → List ℕ → Bool
is_unanimous shape votes x touched = list_all (λ g. is_unanimous_in shape votes x g) touched

-- ---- claims

-- the greatest number that a node has claimed
abbrev pub Claims : Type 0
Claims = NodeName → ℕ

abbrev pub lesser : ℕ → ℕ → ℕ
lesser a b = if nat_le a b then a else b

abbrev pub greater : ℕ → ℕ → ℕ
greater a b = if nat_le a b then b else a

abbrev pub with_claim : Claims → NodeName → ℕ → Claims
with_claim claims name front other = if same_node other name then greater (claims other) front else claims other

-- every replica of the region claims that number
abbrev pub all_claim : Shape → Claims → ℕ → ℕ → Bool
all_claim shape claims g x = list_all (λ name. nat_le x (claims name)) (group_of shape g)

-- the least of the numbers, and 0 of none
unfoldable pub least_of : List ℕ → ℕ
least_of [] = 0
least_of (x ∷ []) = x
least_of (x ∷ y ∷ xs) = lesser x (least_of (y ∷ xs))

unfoldable pub greatest_of : List ℕ → ℕ
greatest_of [] = 0
greatest_of (x ∷ xs) = greater x (greatest_of xs)

-- the greatest number that every replica of some one region claims
abbrev pub committed : Shape → Claims → ℕ
committed shape claims = greatest_of (map (λ g. least_of (map claims (group_of shape g))) (all_regions shape))
