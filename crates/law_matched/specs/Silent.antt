-- A step that tells the client nothing and gives no line, and what is known of all nodes after a step.
use Rattle.std.specs.Prelude.{◌≡◌, ℕ, ◌<◌, ◌≤◌, true, List, [], ◌∷◌, Some, Ok}
use Rattle.salus_types.specs.Volume.{Shape}
use Rattle.salus_types.specs.declared.names.NodeName.{NodeName}
use Rattle.salus_types.specs.declared.names.Sender.TheVariants as sender
use Rattle.salus_message.specs.declared.wire.Message.{Message}
use Rattle.salus_message.specs.Reading.{message_at}
use Rattle.schedule_text.specs.Limits.{IsOfVolume}
use Rattle.schedule_text.specs.declared.schedule.Event.{Event}
use Rattle.salus_model.specs.declared.trace.Handed.{Handed}
use Rattle.salus_model.specs.declared.trace.Handed.TheVariants as handed
use Rattle.salus_model.specs.declared.trace.TraceStep.{TraceStep}
use Rattle.salus_model.specs.Following.{Posted, posted_at, sent_by}
use Rattle.salus_model.specs.Guarding.{is_lied_for}
use Rattle.salus_model.specs.Hearing.{Past, Silence, judge_of}
use Rattle.run_rules.specs.Knowing.{KnownNode}
use Rattle.run_rules.specs.Running.{after}
use Rattle.law_prefix.specs.World as abstract
use Rattle.law_prefix.specs.Run.{IsStart, Run}
use Rattle.kept_model.specs.Nodes.{volume_as}
use Rattle.kept_model.specs.Matching.{Matches}
use Rattle.law_refined.specs.Bringing.{ClientFits}
use Rattle.law_refined.specs.Standing.{NodeStands}

-- the step as a part of the history, where it tells nothing and gives no line
abbrev pub silent_past : Shape → List Event → List Past → TraceStep → Past
silent_past shape events history step = record { step = step; news = Silence; before = judge_of shape events history; lines = [] }

-- what is known of each node after the step
abbrev pub known_after : Shape → List Posted → (NodeName → KnownNode) → TraceStep → NodeName → KnownNode
known_after shape posts known step name = after shape posts name (known name) step

-- each node of the volume stands to the client, the votes and the claims of the abstract world
abbrev pub AllStandTo : Shape → abstract.Volume → abstract.World → (NodeName → KnownNode) → Type 0
AllStandTo shape v w known = (name : NodeName) → IsOfVolume shape name → NodeStands shape v name.region w.client w.votes w.claims (known name)

-- each message of the client, of the first that were sent, fits the abstract client
abbrev pub ClientPostsFit : abstract.Client → List Posted → ℕ → Type 0
ClientPostsFit c posts sent =
    (k : ℕ) → 0 < k → k ≤ sent → (m : Posted) → posted_at posts k ≡ Some m → m.from ≡ sender.Client → (x : Message) → message_at m.bytes ≡ Ok x → ClientFits c x

-- What is handed over was sent before, or it is a lie of the schedule.
abbrev pub IsHandedRight : List Event → ℕ → Handed → Type 0
IsHandedRight events sent (handed.Deliver k) = (0 < k) × (k ≤ sent)
IsHandedRight events sent (handed.Stop k) = (0 < k) × (k ≤ sent)
IsHandedRight events sent (handed.Lie from bytes) = is_lied_for events from ≡ true
IsHandedRight events sent other = Unit {0}

-- so in each of these steps, before which those were
unfoldable pub AreHandedRight : List Event → List TraceStep → List TraceStep → Type 0
AreHandedRight events earlier [] = Unit {0}
AreHandedRight events earlier (t ∷ steps) = IsHandedRight events (sent_by earlier) t.handed × AreHandedRight events (t ∷ earlier) steps

-- There is a run to an abstract world that matches the run after the step; the client's part is as it was.
pub record StepMatches (shape : Shape) (events : List Event) (posts : List Posted) (history : List Past) (known : NodeName → KnownNode) (sent : ℕ) (w : abstract.World) : Type 0 where
  pub after : abstract.World
  pub run : Run (volume_as shape events) w after
  pub client : after.client ≡ w.client
  pub matches : Matches shape events posts history known sent after
  pub stand : AllStandTo shape (volume_as shape events) after known
  pub clients : ClientPostsFit after.client posts sent

-- An abstract world is reached from a formatted one by a run, and matches the run after these steps; each node stands to it as a
-- node must, and what the client posted fits it.
pub record IsReached (shape : Shape) (events : List Event) (posts : List Posted) (history : List Past) (known : NodeName → KnownNode) (sent : ℕ) : Type 0 where
  pub start : abstract.World
  pub now : abstract.World
  pub begun : IsStart (volume_as shape events) start
  pub run : Run (volume_as shape events) start now
  pub matches : Matches shape events posts history known sent now
  pub stand : AllStandTo shape (volume_as shape events) now known
  pub clients : ClientPostsFit now.client posts sent
