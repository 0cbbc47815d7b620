-- A node that handles inputs one after the other, in one session.
use Rattle.std.specs.Prelude.{◌≡◌, ℕ, ◌<◌, ◌≤◌, true, List, [], ◌∷◌, ◌++◌, Option, Some, Ok}
use Rattle.salus_types.specs.Volume.{Shape}
use Rattle.salus_types.specs.declared.names.NodeName.{NodeName}
use Rattle.salus_types.specs.declared.names.Sender.TheVariants as sender
use Rattle.salus_types.specs.declared.records.Header.{Header}
use Rattle.salus_types.specs.declared.records.Record.{Record}
use Rattle.salus_message.specs.declared.small.Prepared.{Prepared}
use Rattle.salus_message.specs.declared.small.Committed.{Committed}
use Rattle.salus_message.specs.declared.wire.Message.TheVariants as message
use Rattle.salus_message.specs.Reading.{message_at}
use Rattle.merkle_region.specs.Tree.{IsAmong}
use Rattle.replica_rules.specs.Views.{View}
use Rattle.replica_rules.specs.Replicas.{is_for}
use Rattle.replica_rules.specs.Nodes.{Memory, NodeState}
use Rattle.replica_rules.specs.Rules.{Sending, is_node, Input, Receives, handled}
use Rattle.law_answers.specs.Turning.{IsInTurn, BringsPart}
use Rattle.law_claimed.specs.Leading.{IsVoteFrom, LeadsOn, IsVotedFor, IsNotedOf}

-- the node after these inputs
unfoldable pub after_all : Shape → ℕ → NodeState → List Input → NodeState
after_all shape g node [] = node
after_all shape g node (input ∷ inputs) = after_all shape g (handled shape g node input).node inputs

-- the messages that it sends by them
unfoldable pub outs_of_all : Shape → ℕ → NodeState → List Input → List Sending
outs_of_all shape g node [] = []
outs_of_all shape g node (input ∷ inputs) = (handled shape g node input).outs ++ outs_of_all shape g (handled shape g node input).node inputs

-- none of them has it switch to another session
unfoldable pub StaysAlong : Shape → ℕ → NodeState → List Input → Type 0
StaysAlong shape g node [] = Unit {0}
StaysAlong shape g node (input ∷ inputs) =
    ((handled shape g node input).node.held.session ≡ node.held.session) × StaysAlong shape g (handled shape g node input).node inputs

-- the parts that they bring, if they are of the replica's session and of region g, are of these
abbrev pub BringOnly : Shape → ℕ → (Record → Type 0) → Memory → List Input → Type 0
BringOnly shape g IsPart m inputs = (input : Input) → IsAmong input inputs → (rec : Record) → BringsPart input rec → is_for shape g m.replica rec ≡ true → IsPart rec

-- one of them brings that vote of a node of the volume, in the session
pub record BringsVote (shape : Shape) (e : ℕ) (name : NodeName) (v : Prepared) (inputs : List Input) : Type 0 where
  pub bytes : List ℕ
  pub among : IsAmong (Receives (sender.Node name) bytes) inputs
  pub decoded : message_at bytes ≡ Ok (message.Prepared v)
  pub listed : is_node shape name ≡ true
  pub session : v.session ≡ e
  pub region : v.region ≡ name.region

-- or that claim
pub record BringsClaim (shape : Shape) (e : ℕ) (name : NodeName) (c : Committed) (inputs : List Input) : Type 0 where
  pub bytes : List ℕ
  pub among : IsAmong (Receives (sender.Node name) bytes) inputs
  pub decoded : message_at bytes ≡ Ok (message.Committed c)
  pub listed : is_node shape name ≡ true
  pub session : c.session ≡ e

-- What the inputs make of a memory, and the messages that go out by them: the replica is still in its turn, and its leader goes
-- on; each part that the view has reached is voted for, and no
-- header but theirs is new; each vote and each claim that was brought is heard.
pub record GoesThrough (shape : Shape) (g : ℕ) (IsPart : Record → Type 0) (IsView : View → Type 0) (before : Memory) (inputs : List Input) (outs : List Sending) (memory : Option Memory) : Type 0 where
  pub m : Memory
  pub is : memory ≡ Some m
  pub session : m.replica.session ≡ before.replica.session
  pub turn : IsInTurn IsPart IsView m.replica
  pub rises : before.replica.view.number ≤ m.replica.view.number
  pub leads : LeadsOn shape before.replica.session before.leader m.leader outs
  pub voted : (rec : Record) → IsPart rec → before.replica.view.number < rec.header.seq → rec.header.seq ≤ m.replica.view.number → IsVotedFor shape g IsPart rec outs m.leader
  pub headers : (h : Header) → IsAmong h m.leader.noted → IsNotedOf IsPart before.leader.noted h
  pub votes : (name : NodeName) (v : Prepared) → BringsVote shape before.replica.session name v inputs → IsVoteFrom v.seq (m.leader.votes name v.seq)
  pub claims : (name : NodeName) (c : Committed) → BringsClaim shape before.replica.session name c inputs → c.front ≤ m.leader.claims name
