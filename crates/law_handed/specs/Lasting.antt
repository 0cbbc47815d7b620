-- What stands behind a node's messages for good: it is in each of the contents that its disk may mean, until the node is replaced.
use Rattle.std.specs.Prelude.{◌⊎◌, ◌<◌, ◌≤◌, if◌then◌else◌, Bool, true, false, List, [], ◌∷◌, ◌++◌, map}
use Rattle.std.specs.List.{AllByRecursion}
use Rattle.salus_types.specs.Volume.{Shape}
use Rattle.salus_types.specs.declared.names.NodeName.{NodeName}
use Rattle.salus_types.specs.declared.records.Held.{Held}
use Rattle.salus_message.specs.declared.wire.Message.{Message}
use Rattle.salus_message.specs.declared.wire.Message.TheVariants as message
use Rattle.salus_model.specs.declared.trace.Handed.{Handed}
use Rattle.salus_model.specs.declared.trace.Handed.TheVariants as handed
use Rattle.salus_model.specs.declared.trace.TraceStep.{TraceStep}
use Rattle.salus_model.specs.Following.{Posted}
use Rattle.salus_model.specs.Licences.{HoldsBase, HoldsStill}
use Rattle.replica_rules.specs.Rules.{Sending}
use Rattle.run_rules.specs.Knowing.{KnownNode, outs_to}
use Rattle.run_rules.specs.Running.{addresses, after}

-- a base of the session that was staged, or a later session; at least the session that was switched to
abbrev pub Stays : Message → Held → Type 0
Stays (message.Staged m) held = (m.session < held.session) ⊎ HoldsBase m.session held
Stays (message.Switched m) held = m.session ≤ held.session
Stays other held = Unit {0}

abbrev pub AllStay : List Message → Held → Type 0
AllStay told held = AllByRecursion (λ m. Stays m held) told

-- what stands behind a message for good, of each of these
abbrev pub AllStand : List Message → Held → Type 0
AllStand told held = AllByRecursion (λ m. HoldsStill m held) told

-- ---- the messages that a node has sent since it was replaced

abbrev pub forgets : Handed → Bool
forgets handed.Replace = true
forgets other = false

abbrev pub told_by : List Message → List Sending → Handed → List Message
told_by told outs what = if forgets what then [] else told ++ map (λ out. out.message) outs

abbrev pub told_after : Shape → List Posted → NodeName → KnownNode → List Message → TraceStep → List Message
told_after shape posts name known told step =
    if addresses name step then told_by told (outs_to shape name.region posts known step.handed step.failed) step.handed else told

unfoldable pub told_of : Shape → List Posted → NodeName → KnownNode → List Message → List TraceStep → List Message
told_of shape posts name known told [] = told
told_of shape posts name known told (step ∷ steps) =
    told_of shape posts name (after shape posts name known step) (told_after shape posts name known told step) steps
