-- What the tables of votes and of claims say.
use Rattle.std.specs.Prelude.{ℕ, ◌+◌, ◌*◌, ◌%◌, nat_lt, if◌then◌else◌, List, slice_index_or, Option, None}
use Rattle.salus_types.specs.Volume.{Shape}
use Rattle.salus_types.specs.declared.names.NodeName.{NodeName}
use Rattle.replica_rules.specs.Voting.{Vote, Votes, Claims}

-- a node's place among all nodes, region by region
abbrev pub node_place : Shape → NodeName → ℕ
node_place shape name = name.region * shape.replicas + name.replica

-- ---- votes

-- a volume, and what is kept of its nodes' votes
pub record KeptVotes : Type 0 where
  pub shape : Shape
  pub places : List (Option Vote)

-- where the vote of a node for a number stands: each node has 16 places, by the number modulo 16
abbrev pub vote_place : Shape → NodeName → ℕ → ℕ
vote_place shape name x = node_place shape name * 16 + x % 16

-- the vote that is kept of a node for a number
unfoldable pub votes_in : KeptVotes → Votes
votes_in kept name x = if nat_lt name.replica kept.shape.replicas then slice_index_or kept.places (vote_place kept.shape name x) None else None

-- ---- claims

-- a volume, the number that every node's claim starts at, and each node's greatest
pub record KeptClaims : Type 0 where
  pub shape : Shape
  pub base : ℕ
  pub fronts : List ℕ

-- the greatest number that a node has claimed
unfoldable pub claims_in : KeptClaims → Claims
claims_in kept name = if nat_lt name.replica kept.shape.replicas then slice_index_or kept.fronts (node_place kept.shape name) kept.base else kept.base
