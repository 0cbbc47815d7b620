-- What the leaders of a session know once every part, vote and claim of it was handed over.
use Rattle.std.specs.Prelude.{◌≡◌, ◌⊎◌, ℕ, ◌+◌, ◌<◌, ◌≤◌, true, length, Option, None, Some}
use Rattle.salus_types.specs.Volume.{Shape}
use Rattle.salus_types.specs.declared.names.NodeName.{NodeName}
use Rattle.salus_types.specs.declared.records.Header.{Header}
use Rattle.merkle_region.specs.Tree.{IsAmong}
use Rattle.volume_model.specs.Contents.{region_root}
use Rattle.volume_model.specs.Groups.{group_of}
use Rattle.volume_model.specs.Parts.{Session, contents_after, batch_at, leader_of, touched_by, part_header}
use Rattle.replica_rules.specs.Voting.{Vote, share_place}
use Rattle.replica_rules.specs.Leading.{Leader}
use Rattle.law_claimed.specs.Leading.{HasNoted, IsSettled, IsVoteFrom}

-- the number of one of the session's own batches
pub record IsOwnBatch (known : Session) (s : ℕ) : Type 0 where
  pub above : known.base < s
  pub within : s ≤ length known.list

-- the node is a replica of that batch's leader
abbrev pub Leads : Shape → Session → ℕ → NodeName → Type 0
Leads shape known s name = IsAmong name (group_of shape (leader_of shape (batch_at known s)))

-- the vote in that number's place is one for a batch of the session, with the root of the sender's region
pub record IsVoteOf (shape : Shape) (known : Session) (name : NodeName) (x : ℕ) (vote : Vote) : Type 0 where
  pub own : IsOwnBatch known vote.seq
  pub place : share_place vote.seq x ≡ true
  pub root : vote.root ≡ region_root shape (contents_after known vote.seq) name.region

abbrev pub IsRightVote : Shape → Session → NodeName → ℕ → Option Vote → Type 0
IsRightVote shape known name x None = Unit {0}
IsRightVote shape known name x (Some vote) = IsVoteOf shape known name x vote

-- the header is that of a batch of the session
pub record IsHeaderOf (shape : Shape) (known : Session) (h : Header) : Type 0 where
  pub own : IsOwnBatch known h.seq
  pub g : ℕ
  pub is : h ≡ part_header shape known h.seq g

-- Of a replica of a leader, where each node claims the front `front name`: its leader's table has what was told to it. Of each
-- batch that it leads it has noted a header, or a later one in its place; it has every vote for that, or a later one; and
-- every claim that is above the session's base. What it has is right, and nothing is left that it may claim. A batch that
-- is 16 or more behind the last one is claimed.
pub record KnowsAll (shape : Shape) (known : Session) (front : NodeName → ℕ) (name : NodeName) : Type 0 where
  pub leader : Leader
  pub front_is : leader.front ≡ front name
  pub base : leader.base ≡ known.base
  pub settled : IsSettled shape leader
  pub headers : (h : Header) → IsAmong h leader.noted → IsHeaderOf shape known h
  pub votes : (other : NodeName) (x : ℕ) → IsRightVote shape known other x (leader.votes other x)
  pub noted : (s : ℕ) → IsOwnBatch known s → Leads shape known s name → HasNoted s leader.noted
  pub voted : (s : ℕ) → IsOwnBatch known s → Leads shape known s name → (g : ℕ) → IsAmong g (touched_by shape (batch_at known s)) → (other : NodeName) → IsAmong other (group_of shape g)
      → IsVoteFrom s (leader.votes other s)
  pub heard : (s : ℕ) → IsOwnBatch known s → (other : NodeName) → Leads shape known s other → (front other ≤ leader.claims other) ⊎ (front other ≤ known.base)
  pub window : (s : ℕ) → IsOwnBatch known s → Leads shape known s name → s + 16 ≤ length known.list → s ≤ front name

-- every replica of its leader claims the batch
abbrev pub IsClaimedBy : Shape → Session → (NodeName → ℕ) → ℕ → Type 0
IsClaimedBy shape known front s = (name : NodeName) → Leads shape known s name → s ≤ front name
