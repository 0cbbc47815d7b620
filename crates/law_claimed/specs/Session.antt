-- The nodes of a volume in one session, each with the inputs that it has handled in it.
use Rattle.std.specs.Prelude.{◌≡◌, ℕ, ◌+◌, ◌≤◌, true, List, [], length, Option, None, Some, Ok}
use Rattle.salus_types.specs.Volume.{Shape, blocks}
use Rattle.salus_types.specs.declared.names.NodeName.{NodeName}
use Rattle.salus_types.specs.declared.names.Sender.TheVariants as sender
use Rattle.salus_types.specs.declared.records.Record.{Record}
use Rattle.salus_message.specs.declared.wire.Message.{Message}
use Rattle.salus_message.specs.Reading.{message_at}
use Rattle.merkle_region.specs.Tree.{IsAmong}
use Rattle.volume_model.specs.Contents.{region_root}
use Rattle.volume_model.specs.Parts.{Session, contents_after, batch_at, leader_of, touched_by}
use Rattle.salus_model.specs.Forgery.{IsPartOf}
use Rattle.replica_rules.specs.Leading.{new_leader}
use Rattle.replica_rules.specs.Nodes.{Memory, NodeState}
use Rattle.replica_rules.specs.Rules.{Sending, is_node, Input, Receives}
use Rattle.replica_rules.specs.Voting.{Vote}
use Rattle.law_answers.specs.Turning.{IsInTurn}
use Rattle.law_reads.specs.Chained.{IsViewOf}
use Rattle.law_claimed.specs.Handling.{after_all, outs_of_all, StaysAlong, BringOnly}
use Rattle.law_claimed.specs.Knowing.{IsOwnBatch, Leads}

-- a vote that is kept is for a batch of the session, with the root of the sender's region
pub record IsRootedVote (shape : Shape) (known : Session) (name : NodeName) (vote : Vote) : Type 0 where
  pub own : IsOwnBatch known vote.seq
  pub root : vote.root ≡ region_root shape (contents_after known vote.seq) name.region

abbrev pub IsRooted : Shape → Session → NodeName → Option Vote → Type 0
IsRooted shape known name None = Unit {0}
IsRooted shape known name (Some vote) = IsRootedVote shape known name vote

-- A node of the volume began the session with its base, before any part, vote or claim; it has handled these inputs since, and
-- stayed in it. Its view has reached every part of its region then, the votes that it keeps are right, and its front is that.
pub record Serves (shape : Shape) (key : List ℕ) (known : Session) (front : NodeName → ℕ) (name : NodeName) : Type 0 where
  pub start : NodeState
  pub before : Memory
  pub there : start.memory ≡ Some before
  pub session : before.replica.session ≡ known.session
  pub number : before.replica.view.number ≡ known.base
  pub turn : IsInTurn (IsPartOf shape key known name.region) (IsViewOf shape known name.region) before.replica
  pub leader : before.leader ≡ new_leader known.base []
  pub inputs : List Input
  pub only : BringOnly shape name.region (IsPartOf shape key known name.region) before inputs
  pub stays : StaysAlong shape name.region start inputs
  pub reached : (m : Memory) → (after_all shape name.region start inputs).memory ≡ Some m → (rec : Record) → IsPartOf shape key known name.region rec → rec.header.seq ≤ m.replica.view.number
  pub rooted : (m : Memory) → (after_all shape name.region start inputs).memory ≡ Some m → (other : NodeName) (x : ℕ) → IsRooted shape known other (m.leader.votes other x)
  pub front_is : (m : Memory) → (after_all shape name.region start inputs).memory ≡ Some m → m.leader.front ≡ front name

-- what it has sent since
abbrev pub sent : (shape : Shape) (key : List ℕ) (known : Session) (front : NodeName → ℕ) (name : NodeName) → Serves shape key known front name → List Sending
sent shape key known front name s = outs_of_all shape name.region s.start s.inputs

-- The inputs bring that message of that node.
pub record Brings (name : NodeName) (m : Message) (inputs : List Input) : Type 0 where
  pub bytes : List ℕ
  pub among : IsAmong (Receives (sender.Node name) bytes) inputs
  pub decoded : message_at bytes ≡ Ok m

-- Every node of the volume serves the session, and each message of one to another was brought to it. The session's list is of
-- the volume, each of its batches touches its leader, and one that is 16 or more behind the last is claimed.
pub record IsServed (shape : Shape) (key : List ℕ) (known : Session) (front : NodeName → ℕ) : Type 0 where
  pub long : length known.origin ≡ blocks shape
  pub begun : known.base ≤ length known.list
  pub led : (s : ℕ) → IsOwnBatch known s → IsAmong (leader_of shape (batch_at known s)) (touched_by shape (batch_at known s))
  pub serves : (name : NodeName) → is_node shape name ≡ true → Serves shape key known front name
  pub brought : (p q : NodeName) (p_is : is_node shape p ≡ true) (q_is : is_node shape q ≡ true) (m : Message)
      → IsAmong (record { to = sender.Node q; message = m }) (sent shape key known front p (serves p p_is)) → Brings p m (serves q q_is).inputs
  pub window : (s : ℕ) → IsOwnBatch known s → (name : NodeName) → Leads shape known s name → s + 16 ≤ length known.list → s ≤ front name
