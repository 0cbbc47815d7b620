-- Whether a step finds no room for the part that it hands over: its node keeps as many early parts as it may.
use Rattle.std.specs.Prelude.{ℕ, Bool, true, false, ◌&&◌, not, List, [], ◌∷◌, reverse, Option, None, Some, Result, Ok, Err}
use Rattle.std.specs.Option.{option_map_or}
use Rattle.salus_types.specs.Volume.{Shape}
use Rattle.salus_types.specs.declared.names.NodeName.{NodeName}
use Rattle.salus_types.specs.declared.names.Sender.{Sender}
use Rattle.salus_types.specs.declared.names.Sender.TheVariants as sender
use Rattle.salus_types.specs.declared.records.Held.{Held}
use Rattle.salus_types.specs.declared.records.Record.{Record}
use Rattle.salus_message.specs.declared.wire.Message.{Message}
use Rattle.salus_message.specs.declared.wire.Message.TheVariants as message
use Rattle.salus_message.specs.declared.wire.MessageError.{MessageError}
use Rattle.salus_message.specs.Reading.{message_at}
use Rattle.salus_model.specs.declared.trace.Handed.{Handed}
use Rattle.salus_model.specs.declared.trace.TraceStep.{TraceStep}
use Rattle.salus_model.specs.Following.{Posted}
use Rattle.salus_model.specs.Complete.{Rooms}
use Rattle.replica_rules.specs.Replicas.{PartAnswer, Full, take_part}
use Rattle.replica_rules.specs.Nodes.{Memory}
use Rattle.replica_rules.specs.Rules.{Input, Receives, Ticks}
use Rattle.run_rules.specs.Knowing.{KnownNode, fresh, input_of}
use Rattle.run_rules.specs.Running.{known_of}

abbrev pub is_full : PartAnswer → Bool
is_full Full = true
is_full other = false

-- the part in a message
abbrev pub part_told : Message → Option Record
part_told (message.Part m) = Some m.rec
part_told other = None

abbrev pub part_read : Result Message MessageError → Option Record
part_read (Ok m) = part_told m
part_read (Err e) = None

-- the part that the client sends
abbrev pub part_from : Sender → List ℕ → Option Record
part_from sender.Client bytes = part_read (message_at bytes)
part_from (sender.Node name) bytes = None

abbrev pub part_in : Input → Option Record
part_in (Receives from bytes) = part_from from bytes
part_in Ticks = None

-- a node of region g with that memory has no room for the part
abbrev pub has_no_room : Shape → ℕ → Record → Memory → Bool
has_no_room shape g rec m = is_full (take_part shape g m.replica rec).answer

-- so a node that speaks and has a view
abbrev pub refuses_for_room : Shape → ℕ → KnownNode → Record → Bool
refuses_for_room shape g known rec = not known.silent && option_map_or (λ m. has_no_room shape g rec m) known.state.memory false

abbrev pub fills : Shape → ℕ → KnownNode → Input → Bool
fills shape g known input = option_map_or (λ rec. refuses_for_room shape g known rec) (part_in input) false

abbrev pub fills_by : Shape → List Posted → ℕ → KnownNode → Handed → Bool
fills_by shape posts g known what = option_map_or (λ input. fills shape g known input) (input_of posts what) false

-- The step, after those that are given with the newest first, finds no room; each node began with what it held at first.
abbrev pub finds_no_room : Shape → List Posted → (NodeName → Held) → List TraceStep → Sender → Handed → Bool
finds_no_room shape posts first earlier sender.Client what = false
finds_no_room shape posts first earlier (sender.Node name) what =
    fills_by shape posts name.region (known_of shape posts name (fresh shape name.region (first name)) (reverse earlier)) what

abbrev pub rooms_of : Shape → List Posted → (NodeName → Held) → Rooms
rooms_of shape posts first earlier step = finds_no_room shape posts first earlier step.party step.handed
