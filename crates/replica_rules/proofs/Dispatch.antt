-- Each rule by itself: what holds of each holds of every handling.
use Rattle.std.proofs.Common.{ℕ}
use Rattle.std.specs.Prelude.{Result, Ok, Err}
use Rattle.salus_types.specs.Volume.{Shape}
use Rattle.salus_types.specs.declared.names.NodeName.{NodeName}
use Rattle.salus_types.specs.declared.names.Sender.{Sender}
use Rattle.salus_types.specs.declared.names.Sender.TheVariants as sender
use Rattle.salus_types.specs.declared.records.Record.{Record}
use Rattle.salus_types.specs.declared.records.Base.{Base}
use Rattle.salus_message.specs.declared.small.Prepared.{Prepared}
use Rattle.salus_message.specs.declared.small.Committed.{Committed}
use Rattle.salus_message.specs.declared.small.Ask.{Ask}
use Rattle.salus_message.specs.declared.small.Dump.{Dump}
use Rattle.salus_message.specs.declared.wire.Message.{Message}
use Rattle.salus_message.specs.declared.wire.Message.TheVariants as message
use Rattle.salus_message.specs.declared.wire.MessageError.{MessageError}
use Rattle.salus_message.specs.Reading.{message_at}
use Rattle.replica_rules.specs.Nodes.{Memory, NodeState}
use Rattle.replica_rules.specs.Rules.{Turn, Plan, plan_of, ignored, in_session, by_part, by_ask, by_gather, by_stage, by_switch, by_dump, by_vote, by_claim, by_tick, from_client, is_node, from_node, from_result, Input, Receives, Ticks, planned}
use Rattle.list_lemmas.proofs.Each.{either_way, OfSome, some_way}

module _ (shape : Shape) (g : ℕ) (node : NodeState) (R : Memory → Type 0) (there : OfSome R node.memory) (Q : Plan → Type 0) (none : Q (ignored node)) where
  in_session_by : (rule : Memory → Turn) → ((m : Memory) → R m → Q (plan_of (rule m))) → Q (in_session node rule)
  in_session_by rule each = some_way R Q (λ m. plan_of (rule m)) (ignored node) node.memory there each none

  module _ (part : (rec : Record) (m : Memory) → R m → Q (plan_of (by_part shape g rec m))) (ask : (a : Ask) (m : Memory) → R m → Q (plan_of (by_ask shape g a m)))
      (dump : (d : Dump) (m : Memory) → R m → Q (plan_of (by_dump g d m))) (vote : (name : NodeName) (v : Prepared) (m : Memory) → R m → Q (plan_of (by_vote shape name v m)))
      (claim : (name : NodeName) (c : Committed) (m : Memory) → R m → Q (plan_of (by_claim shape name c m))) (tick : (m : Memory) → R m → Q (plan_of (by_tick shape m)))
      (gather : (e : ℕ) → Q (by_gather node e)) (stage : (base : Base) → Q (by_stage shape g node base)) (switch : (e : ℕ) → Q (by_switch shape g node e)) where
    client_by : (m : Message) → Q (from_client shape g node m)
    client_by (message.Part m) = in_session_by (by_part shape g m.rec) (part m.rec)
    client_by (message.Ask m) = in_session_by (by_ask shape g m) (ask m)
    client_by (message.Dump m) = in_session_by (by_dump g m) (dump m)
    client_by (message.Gather m) = gather m.session
    client_by (message.Stage m) = stage m.base
    client_by (message.Switch m) = switch m.session
    client_by (message.Prepared m) = none
    client_by (message.Committed m) = none
    client_by (message.Answer m) = none
    client_by (message.Gathered m) = none
    client_by (message.Staged m) = none
    client_by (message.Switched m) = none
    client_by (message.Dumped m) = none

    node_by : (name : NodeName) (m : Message) → Q (from_node shape node name m)
    node_by name (message.Prepared m) = in_session_by (by_vote shape name m) (vote name m)
    node_by name (message.Committed m) = in_session_by (by_claim shape name m) (claim name m)
    node_by name (message.Part m) = none
    node_by name (message.Ask m) = none
    node_by name (message.Answer m) = none
    node_by name (message.Gather m) = none
    node_by name (message.Gathered m) = none
    node_by name (message.Stage m) = none
    node_by name (message.Staged m) = none
    node_by name (message.Switch m) = none
    node_by name (message.Switched m) = none
    node_by name (message.Dump m) = none
    node_by name (message.Dumped m) = none

    result_by : (from : Sender) (r : Result Message MessageError) → Q (from_result shape g node from r)
    result_by sender.Client (Ok m) = client_by m
    result_by (sender.Node name) (Ok m) = either_way (is_node shape name) (from_node shape node name m) (ignored node) Q (node_by name m) none
    result_by from (Err e) = none

    pub planned_by : (input : Input) → Q (planned shape g node input)
    unfolding planned
    planned_by (Receives from bytes) = result_by from (message_at bytes)
    planned_by Ticks = in_session_by (by_tick shape) tick
