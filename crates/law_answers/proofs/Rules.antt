-- Each rule by itself, with what is given of the client's parts and asks: what holds of each holds of every handling.
use Rattle.std.proofs.Common.{ℕ}
use Rattle.std.specs.Prelude.{Result, Ok, Err}
use Rattle.salus_types.specs.Volume.{Shape}
use Rattle.salus_types.specs.declared.names.NodeName.{NodeName}
use Rattle.salus_types.specs.declared.names.Sender.{Sender}
use Rattle.salus_types.specs.declared.names.Sender.TheVariants as sender
use Rattle.salus_types.specs.declared.records.Record.{Record}
use Rattle.salus_types.specs.declared.records.Base.{Base}
use Rattle.salus_message.specs.declared.small.Prepared.{Prepared}
use Rattle.salus_message.specs.declared.small.Committed.{Committed}
use Rattle.salus_message.specs.declared.small.Ask.{Ask}
use Rattle.salus_message.specs.declared.small.Dump.{Dump}
use Rattle.salus_message.specs.declared.wire.Message.{Message}
use Rattle.salus_message.specs.declared.wire.Message.TheVariants as message
use Rattle.salus_message.specs.declared.wire.MessageError.{MessageError}
use Rattle.salus_message.specs.Reading.{message_at}
use Rattle.replica_rules.specs.Nodes.{Memory, NodeState}
use Rattle.replica_rules.specs.Rules.{Turn, Plan, plan_of, ignored, in_session, by_part, by_ask, by_gather, by_stage, by_switch, by_dump, by_vote, by_claim, by_tick, from_client, is_node, from_node, from_result, Input, Receives, Ticks, planned}
use Rattle.list_lemmas.proofs.Each.{either_way, OfSome, some_way}

-- that is given of the client's part, and that of its ask
abbrev pub OfMessage : (Record → Type 0) → (Ask → Type 0) → Message → Type 0
OfMessage Part Asked (message.Part m) = Part m.rec
OfMessage Part Asked (message.Ask m) = Asked m
OfMessage Part Asked other = Unit {0}

abbrev pub OfLetter : (Record → Type 0) → (Ask → Type 0) → Sender → Message → Type 0
OfLetter Part Asked sender.Client m = OfMessage Part Asked m
OfLetter Part Asked (sender.Node name) m = Unit {0}

abbrev pub OfResult : (Record → Type 0) → (Ask → Type 0) → Sender → Result Message MessageError → Type 0
OfResult Part Asked from (Ok m) = OfLetter Part Asked from m
OfResult Part Asked from (Err e) = Unit {0}

abbrev pub OfInput : (Record → Type 0) → (Ask → Type 0) → Input → Type 0
OfInput Part Asked (Receives from bytes) = OfResult Part Asked from (message_at bytes)
OfInput Part Asked Ticks = Unit {0}

module _ (shape : Shape) (g : ℕ) (node : NodeState) (R : Memory → Type 0) (there : OfSome R node.memory) (Part : Record → Type 0) (Asked : Ask → Type 0) (Q : Plan → Type 0) (none : Q (ignored node)) where
  in_session_with : (rule : Memory → Turn) → ((m : Memory) → R m → Q (plan_of (rule m))) → Q (in_session node rule)
  in_session_with rule each = some_way R Q (λ m. plan_of (rule m)) (ignored node) node.memory there each none

  module _ (part : (rec : Record) (m : Memory) → Part rec → R m → Q (plan_of (by_part shape g rec m))) (ask : (a : Ask) (m : Memory) → Asked a → R m → Q (plan_of (by_ask shape g a m)))
      (dump : (d : Dump) (m : Memory) → R m → Q (plan_of (by_dump g d m))) (vote : (name : NodeName) (v : Prepared) (m : Memory) → R m → Q (plan_of (by_vote shape name v m)))
      (claim : (name : NodeName) (c : Committed) (m : Memory) → R m → Q (plan_of (by_claim shape name c m))) (tick : (m : Memory) → R m → Q (plan_of (by_tick shape m)))
      (gather : (e : ℕ) → Q (by_gather node e)) (stage : (base : Base) → Q (by_stage shape g node base)) (switch : (e : ℕ) → Q (by_switch shape g node e)) where
    client_with : (m : Message) → OfMessage Part Asked m → Q (from_client shape g node m)
    client_with (message.Part m) of = in_session_with (by_part shape g m.rec) (λ k r. part m.rec k of r)
    client_with (message.Ask m) of = in_session_with (by_ask shape g m) (λ k r. ask m k of r)
    client_with (message.Dump m) of = in_session_with (by_dump g m) (dump m)
    client_with (message.Gather m) of = gather m.session
    client_with (message.Stage m) of = stage m.base
    client_with (message.Switch m) of = switch m.session
    client_with (message.Prepared m) of = none
    client_with (message.Committed m) of = none
    client_with (message.Answer m) of = none
    client_with (message.Gathered m) of = none
    client_with (message.Staged m) of = none
    client_with (message.Switched m) of = none
    client_with (message.Dumped m) of = none

    node_with : (name : NodeName) (m : Message) → Q (from_node shape node name m)
    node_with name (message.Prepared m) = in_session_with (by_vote shape name m) (vote name m)
    node_with name (message.Committed m) = in_session_with (by_claim shape name m) (claim name m)
    node_with name (message.Part m) = none
    node_with name (message.Ask m) = none
    node_with name (message.Answer m) = none
    node_with name (message.Gather m) = none
    node_with name (message.Gathered m) = none
    node_with name (message.Stage m) = none
    node_with name (message.Staged m) = none
    node_with name (message.Switch m) = none
    node_with name (message.Switched m) = none
    node_with name (message.Dump m) = none
    node_with name (message.Dumped m) = none

    result_with : (from : Sender) (r : Result Message MessageError) → OfResult Part Asked from r → Q (from_result shape g node from r)
    result_with sender.Client (Ok m) of = client_with m of
    result_with (sender.Node name) (Ok m) of = either_way (is_node shape name) (from_node shape node name m) (ignored node) Q (node_with name m) none
    result_with from (Err e) of = none

    pub planned_with : (input : Input) → OfInput Part Asked input → Q (planned shape g node input)
    unfolding planned
    planned_with (Receives from bytes) of = result_with from (message_at bytes) of
    planned_with Ticks of = in_session_with (by_tick shape) tick
