-- Which leader of the rules a leader of the program stands for.
use Rattle.std.specs.Prelude.{◌≡◌, ℕ, ◌<◌, IsTrue, List, ◌∷◌, map}
use Rattle.salus_types.specs.Volume.{Shape}
use Rattle.salus_types.specs.declared.records.Header.{Header}
use Rattle.merkle_region.specs.Tree.{IsAmong}
use Rattle.replica_rules.specs.Voting.{is_unanimous}
use Rattle.replica_rules.specs.Leading.{Leader, is_after_claimed, all_certified}
use Rattle.unanimous_certificate.specs.Kept.{KeptVotes, KeptClaims, votes_in, claims_in}
use Rattle.pipelined_commit.specs.Noting.{Noted, noted_of}

-- The volume, the region that it leads, the number with which the session's base came, the front up to which all is
-- claimed, what is noted of the headers by rising numbers, and the votes and claims that are kept.
pub record KeptLeader : Type 0 where
  pub shape : Shape
  pub region : ℕ
  pub base : ℕ
  pub front : ℕ
  pub noted : List Noted
  pub votes : KeptVotes
  pub claims : KeptClaims

-- It has that leader's base and front, the numbers of its headers with their regions, and its votes and claims.
pub record StandsFor (kept : KeptLeader) (leader : Leader) : Type 0 where
  pub base : kept.base ≡ leader.base
  pub front : kept.front ≡ leader.front
  pub noted : kept.noted ≡ map noted_of leader.noted
  pub votes : votes_in kept.votes ≡ leader.votes
  pub claims : claims_in kept.claims ≡ leader.claims

-- whatever leader it stood for, it stands for what that one has become
abbrev pub Follows : (Leader → Leader) → KeptLeader → KeptLeader → Type 0
Follows step before after = (leader : Leader) → StandsFor before leader → StandsFor after (step leader)

-- the same volume and the same region
abbrev pub SamePlace : KeptLeader → KeptLeader → Type 0
SamePlace before after = (after.shape ≡ before.shape) × (after.region ≡ before.region)

-- A noted header past the front may be claimed where every region that its batch touches is unanimous, and the batch
-- before is the base, or claimed by every replica of its leader.
pub record MayBeClaimed (shape : Shape) (leader : Leader) (h : Header) : Type 0 where
  pub noted : IsAmong h leader.noted
  pub past : leader.front < h.seq
  pub unanimous : IsTrue (is_unanimous shape leader.votes h.seq h.touched)
  pub after : IsTrue (is_after_claimed shape leader h)

-- the number of a header that may be claimed
abbrev pub IsClaimable : Shape → Leader → ℕ → Type 0
IsClaimable shape leader s = (h : Header) × MayBeClaimed shape leader h × (h.seq ≡ s)

-- The first header that may be claimed has that number, and once the front is there, the others may be claimed.
pub record IsFirst (shape : Shape) (leader : Leader) (s : ℕ) : Type 0 where
  pub header : Header
  pub rest : List Header
  pub certified : all_certified shape leader ≡ header ∷ rest
  pub number : header.seq ≡ s
  pub left : all_certified shape (record leader { front = s }) ≡ rest
