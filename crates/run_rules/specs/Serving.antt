-- The run of the client by its rules: a fold over the steps that address it. The messages are taken as they were posted.
use Rattle.std.specs.Prelude.{◌≡◌, ℕ, ◌≤◌, Bool, true, false, if◌then◌else◌, List, [], ◌∷◌, map, None}
use Rattle.schedule_text.specs.declared.schedule.Volume.{Volume}
use Rattle.salus_model.specs.declared.trace.TraceStep.{TraceStep}
use Rattle.volume_model.specs.Groups.{is_client}
use Rattle.salus_model.specs.Following.{Posted}
use Rattle.client_rules.specs.State.{Client}
use Rattle.client_rules.specs.Rules.{client_step, posted_letter}
use Rattle.run_rules.specs.Running.{posts_between}

-- the client after some steps
unfoldable pub client_of : Volume → List Posted → Client → List TraceStep → Client
client_of volume posts c [] = c
client_of volume posts c (step ∷ steps) = client_of volume posts (client_step volume posts c step).client steps

-- The client has no disk, so nothing fails and nothing is loaded. The messages that the step adds are those of the rules.
pub record IsClientStep (volume : Volume) (posts : List Posted) (c : Client) (before : ℕ) (step : TraceStep) : Type 0 where
  pub calm : step.failed ≡ false
  pub unloaded : step.loaded ≡ None
  pub more : before ≤ step.sent
  pub messages : posts_between posts before step.sent ≡ map posted_letter (client_step volume posts c step).outs

abbrev pub IsStepOf : Bool → Volume → List Posted → Client → ℕ → TraceStep → Type 0
IsStepOf true volume posts c before step = IsClientStep volume posts c before step
IsStepOf false volume posts c before step = Unit {0}

-- so each of these steps that addresses it, before which so many messages were sent
unfoldable pub ClientSteps : Volume → List Posted → Client → ℕ → List TraceStep → Type 0
ClientSteps volume posts c before [] = Unit {0}
ClientSteps volume posts c before (step ∷ steps) =
    IsStepOf (is_client step.party) volume posts c before step × ClientSteps volume posts (client_step volume posts c step).client step.sent steps

-- the client, which was that at first, goes by the rules
abbrev pub ClientByRules : Volume → Client → List Posted → List TraceStep → Type 0
ClientByRules volume first posts trace = ClientSteps volume posts first 0 trace
