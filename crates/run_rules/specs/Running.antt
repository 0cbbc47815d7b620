-- The run of one node by its rules: a fold over the steps that address it. The messages are taken as they were posted.
use Rattle.std.specs.Prelude.{◌≡◌, ℕ, ◌-◌, ◌≤◌, Bool, true, false, if◌then◌else◌, List, [], ◌∷◌, map, take, drop}
use Rattle.salus_types.specs.Volume.{Shape}
use Rattle.salus_types.specs.declared.names.NodeName.{NodeName}
use Rattle.salus_types.specs.declared.names.Sender.{Sender}
use Rattle.salus_types.specs.declared.names.Sender.TheVariants as sender
use Rattle.salus_types.specs.declared.records.Held.{Held}
use Rattle.salus_message.specs.Spelling.{message_bytes}
use Rattle.schedule_text.specs.declared.schedule.Volume.{Volume}
use Rattle.salus_model.specs.declared.trace.TraceStep.{TraceStep}
use Rattle.volume_model.specs.Contents.{zero_contents}
use Rattle.volume_model.specs.Parts.{whole_base, Session}
use Rattle.salus_model.specs.Following.{Posted}
use Rattle.volume_model.specs.Groups.{same_party}
use Rattle.replica_rules.specs.Rules.{Sending}
use Rattle.run_rules.specs.Knowing.{KnownNode, fresh, outs_to, known_to, LoadsRight}

-- messages with their sender
abbrev pub posted_by : Sender → List Sending → List Posted
posted_by from outs = map (λ out. record { from = from; to = out.to; bytes = message_bytes out.message }) outs

-- the messages from one count of them up to another
abbrev pub posts_between : List Posted → ℕ → ℕ → List Posted
posts_between posts before now = take (now - before) (drop before posts)

abbrev pub addresses : NodeName → TraceStep → Bool
addresses name step = same_party step.party (sender.Node name)

-- ---- the node after some steps

abbrev pub after : Shape → List Posted → NodeName → KnownNode → TraceStep → KnownNode
after shape posts name known step =
    if addresses name step then known_to shape name.region posts known step.handed step.failed step.loaded else known

unfoldable pub known_of : Shape → List Posted → NodeName → KnownNode → List TraceStep → KnownNode
known_of shape posts name known [] = known
known_of shape posts name known (step ∷ steps) = known_of shape posts name (after shape posts name known step) steps

-- ---- its steps are by the rules

-- A silent node makes no call of its disk, so none fails. What is loaded is what the disk may mean. The messages that the
-- step adds are those of the rules.
pub record IsNodeStep (shape : Shape) (posts : List Posted) (name : NodeName) (known : KnownNode) (before : ℕ) (step : TraceStep) : Type 0 where
  pub quiet : known.silent ≡ true → step.failed ≡ false
  pub loads : LoadsRight shape name.region posts known step.handed step.failed step.loaded
  pub more : before ≤ step.sent
  pub messages : posts_between posts before step.sent ≡ posted_by (sender.Node name) (outs_to shape name.region posts known step.handed step.failed)

-- where it addresses the node
abbrev pub IsStepOf : Bool → Shape → List Posted → NodeName → KnownNode → ℕ → TraceStep → Type 0
IsStepOf true shape posts name known before step = IsNodeStep shape posts name known before step
IsStepOf false shape posts name known before step = Unit {0}

-- so each of these steps, before which so many messages were sent
unfoldable pub AllSteps : Shape → List Posted → NodeName → KnownNode → ℕ → List TraceStep → Type 0
AllSteps shape posts name known before [] = Unit {0}
AllSteps shape posts name known before (step ∷ steps) =
    IsStepOf (addresses name step) shape posts name known before step × AllSteps shape posts name (after shape posts name known step) step.sent steps

-- each node, which began with what it held at first, goes by the rules
abbrev pub NodesByRules : Shape → (NodeName → Held) → List Posted → List TraceStep → Type 0
NodesByRules shape first posts trace = (name : NodeName) → AllSteps shape posts name (fresh shape name.region (first name)) 0 trace

-- ---- a formatted volume

-- session 1, before any batch
abbrev pub new_session : Shape → Session
new_session shape = record { session = 1; base = 0; origin = zero_contents shape; list = [] }

-- what a formatted node holds
abbrev pub formatted : Volume → NodeName → Held
formatted volume name = record { session = 1; bases = whole_base volume.geometry volume.key (new_session volume.geometry) name.region ∷ []; parts = [] }
