-- A leader goes on: nothing that it was told is lost, and nothing that it may claim is left.
use Rattle.std.specs.Prelude.{◌≡◌, ◌⊎◌, ℕ, ◌<◌, ◌≤◌, true, false, List, [], ◌∷◌, Option, None, Some}
use Rattle.std.specs.List.{AllByRecursion}
use Rattle.salus_types.specs.Volume.{Shape}
use Rattle.salus_types.specs.declared.names.NodeName.{NodeName}
use Rattle.salus_types.specs.declared.records.Header.{Header}
use Rattle.salus_types.specs.declared.records.Record.{Record}
use Rattle.merkle_region.specs.Tree.{IsAmong}
use Rattle.replica_rules.specs.Views.{led_by}
use Rattle.replica_rules.specs.Voting.{Vote, Votes, share_place}
use Rattle.replica_rules.specs.Leading.{Leader, is_certified}
use Rattle.replica_rules.specs.Nodes.{Memory}
use Rattle.replica_rules.specs.Rules.{Sending, votes_for, claims_of}

-- the headers stand by rising numbers, none of which is below that one
unfoldable pub Rises : ℕ → List Header → Type 0
Rises low [] = Unit {0}
Rises low (h ∷ headers) = (low ≤ h.seq) × Rises h.seq headers

-- the noted headers stand by rising numbers, and none of them may be claimed
pub record IsSettled (shape : Shape) (leader : Leader) : Type 0 where
  pub rises : Rises 0 leader.noted
  pub none : AllByRecursion (λ h. is_certified shape leader h ≡ false) leader.noted

-- a header of at least that number is noted in its place
pub record HasNoted (s : ℕ) (noted : List Header) : Type 0 where
  pub h : Header
  pub among : IsAmong h noted
  pub place : share_place h.seq s ≡ true
  pub high : s ≤ h.seq

-- the vote that is kept is for at least that number
abbrev pub IsVoteFrom : ℕ → Option Vote → Type 0
IsVoteFrom s None = ⊥
IsVoteFrom s (Some vote) = s ≤ vote.seq

-- a vote stands in a place that its number shares
abbrev pub IsPlaced : ℕ → Option Vote → Type 0
IsPlaced x None = Unit {0}
IsPlaced x (Some vote) = share_place vote.seq x ≡ true

abbrev pub ArePlaced : Votes → Type 0
ArePlaced votes = (name : NodeName) (x : ℕ) → IsPlaced x (votes name x)

-- the claim of a front goes to the client and to every node
abbrev pub Claims : Shape → ℕ → ℕ → List Sending → Type 0
Claims shape e front outs = AllByRecursion (λ out. IsAmong out outs) (claims_of shape e front)

-- The front hasn't fallen, and where it has risen it is claimed. Votes, claims and noted headers are still there, or later ones
-- in their places; and if nothing was left that it may claim, nothing is.
pub record LeadsOn (shape : Shape) (e : ℕ) (before after : Leader) (outs : List Sending) : Type 0 where
  pub base : after.base ≡ before.base
  pub rises : before.front ≤ after.front
  pub claimed : (after.front ≡ before.front) ⊎ Claims shape e after.front outs
  pub noted : (s : ℕ) → HasNoted s before.noted → HasNoted s after.noted
  pub votes : (name : NodeName) (s : ℕ) → IsVoteFrom s (before.votes name s) → IsVoteFrom s (after.votes name s)
  pub claims : (name : NodeName) → before.claims name ≤ after.claims name
  pub placed : ArePlaced before.votes → ArePlaced after.votes
  pub settled : IsSettled shape before → IsSettled shape after

-- so of the memory after it, which is of the same session
pub record MemoryLeadsOn (shape : Shape) (before : Memory) (memory : Option Memory) (outs : List Sending) : Type 0 where
  pub m : Memory
  pub is : memory ≡ Some m
  pub session : m.replica.session ≡ before.replica.session
  pub leads : LeadsOn shape before.replica.session before.leader m.leader outs

-- ---- what is told to it

-- the node has a vote of that one for at least that number
abbrev pub HearsVote : NodeName → ℕ → Option Memory → Type 0
HearsVote name s None = ⊥
HearsVote name s (Some m) = IsVoteFrom s (m.leader.votes name s)

-- it knows of a claim of that one at least so far
abbrev pub HearsClaim : NodeName → ℕ → Option Memory → Type 0
HearsClaim name front None = ⊥
HearsClaim name front (Some m) = front ≤ m.leader.claims name

-- The votes for the part, or for one of its number, go to every replica of the region that leads it; where that is region g,
-- its header is noted.
pub record IsVotedFor (shape : Shape) (g : ℕ) (IsPart : Record → Type 0) (rec : Record) (outs : List Sending) (leader : Leader) : Type 0 where
  pub same : Record
  pub part : IsPart same
  pub number : same.header.seq ≡ rec.header.seq
  pub votes : AllByRecursion (λ out. IsAmong out outs) (votes_for shape same)
  pub noted : led_by same.header ≡ g → HasNoted same.header.seq leader.noted

-- the header was noted before, or is that of one of the parts
abbrev pub IsNotedOf : (Record → Type 0) → List Header → Header → Type 0
IsNotedOf IsPart noted h = IsAmong h noted ⊎ ((rec : Record) × IsPart rec × (h ≡ rec.header))

-- so each part that the view has reached then, and hadn't before; and no header but those of parts is new
pub record VotesForNew (shape : Shape) (g : ℕ) (IsPart : Record → Type 0) (before : Memory) (memory : Option Memory) (outs : List Sending) : Type 0 where
  pub m : Memory
  pub is : memory ≡ Some m
  pub voted : (rec : Record) → IsPart rec → before.replica.view.number < rec.header.seq → rec.header.seq ≤ m.replica.view.number → IsVotedFor shape g IsPart rec outs m.leader
  pub headers : (h : Header) → IsAmong h m.leader.noted → IsNotedOf IsPart before.leader.noted h
