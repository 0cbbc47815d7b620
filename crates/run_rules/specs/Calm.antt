-- When a call of a node's disk may fail: in the step of a stop, and in a node that an event named to fail and that wasn't
-- loaded since.
use Rattle.std.specs.Prelude.{◌≡◌, ◌⊎◌, ℕ, ◌-◌, Bool, true, false, ◌&&◌, not, nat_lt, List, [], ◌∷◌, Option, None, Some}
use Rattle.std.specs.List.{list_any, range_with_len}
use Rattle.salus_types.specs.declared.names.NodeName.{NodeName}
use Rattle.salus_types.specs.declared.names.Sender.{Sender}
use Rattle.salus_types.specs.declared.names.Sender.TheVariants as sender
use Rattle.schedule_text.specs.declared.schedule.Event.{Event}
use Rattle.schedule_text.specs.declared.schedule.Event.TheVariants as event
use Rattle.salus_model.specs.declared.trace.Handed.{Handed}
use Rattle.salus_model.specs.declared.trace.TraceStep.{TraceStep}
use Rattle.volume_model.specs.Groups.{same_node, same_party}
use Rattle.salus_model.specs.Judge.{event_at}
use Rattle.salus_model.specs.Following.{loads}
use Rattle.salus_model.specs.Complete.{is_stop}

-- the event has a later call of that node's disk fail
abbrev pub names_failing : NodeName → Option Event → Bool
names_failing name (Some (event.Fail node call)) = same_node node name
names_failing name other = false

-- the step loads that node
abbrev pub loads_node : NodeName → TraceStep → Bool
loads_node name step = loads step.handed && same_party step.party (sender.Node name)

-- event u named the node to fail, and no step of a later event has loaded it
abbrev pub is_failing_by : List Event → List TraceStep → NodeName → ℕ → Bool
is_failing_by events earlier name u =
    names_failing name (event_at events u) && not (list_any (λ step. nat_lt u step.event && loads_node name step) earlier)

-- so some event before event n did, after these steps
abbrev pub is_harmed : List Event → List TraceStep → ℕ → NodeName → Bool
is_harmed events earlier n name = list_any (λ u. is_failing_by events earlier name u) (range_with_len 1 (n - 1))

abbrev pub is_harmed_party : List Event → List TraceStep → ℕ → Sender → Bool
is_harmed_party events earlier n sender.Client = false
is_harmed_party events earlier n (sender.Node name) = is_harmed events earlier n name

-- a call of the disk may fail in the step
abbrev pub MayFail : List Event → List TraceStep → TraceStep → Type 0
MayFail events earlier step = (is_stop step.handed ≡ true) ⊎ (is_harmed_party events earlier step.event step.party ≡ true)

-- In each of these steps, after those that are given with the newest first, a call fails only where one may.
unfoldable pub CalmFrom : List Event → List TraceStep → List TraceStep → Type 0
CalmFrom events earlier [] = Unit {0}
CalmFrom events earlier (step ∷ steps) = (step.failed ≡ true → MayFail events earlier step) × CalmFrom events (step ∷ earlier) steps

abbrev pub Calm : List Event → List TraceStep → Type 0
Calm events trace = CalmFrom events [] trace
