-- What holds of a run's client behind the premises of its steps. The messages are taken as they were posted.
use Rattle.std.specs.Prelude.{◌≡◌, ℕ, List, [], ◌∷◌}
use Rattle.schedule_text.specs.declared.schedule.Volume.{Volume}
use Rattle.printed_lines.specs.declared.line.Line.{Line}
use Rattle.salus_model.specs.declared.trace.TraceStep.{TraceStep}
use Rattle.volume_model.specs.Groups.{is_client}
use Rattle.salus_model.specs.Following.{Posted}
use Rattle.salus_model.specs.Hearing.{news_of}
use Rattle.client_rules.specs.State.{Client}
use Rattle.client_rules.specs.Rules.{client_step}
use Rattle.run_rules.specs.Serving.{IsStepOf}
use Rattle.client_premises.specs.Premises.{IsApart}

-- the premises of all these steps
unfoldable pub AreApart : Volume → List Posted → Client → List TraceStep → Type 0
AreApart volume posts c [] = Unit {0}
AreApart volume posts c (step ∷ steps) =
    IsApart volume c (news_of posts step) × AreApart volume posts (client_step volume posts c step).client steps

-- P holds of the client after these steps, behind the premise of each
unfoldable pub Behind : Volume → List Posted → Client → List TraceStep → (Client → Type 0) → Type 0
Behind volume posts c [] P = P c
Behind volume posts c (step ∷ steps) P =
    IsApart volume c (news_of posts step) → Behind volume posts (client_step volume posts c step).client steps P

-- each of these steps that addresses the client, before which so many messages were sent, is by its rules, behind the premises of
-- the steps up to it
unfoldable pub ClientStepsBehind : Volume → List Posted → Client → ℕ → List TraceStep → Type 0
ClientStepsBehind volume posts c before [] = Unit {0}
ClientStepsBehind volume posts c before (step ∷ steps) =
    IsApart volume c (news_of posts step)
    → IsStepOf (is_client step.party) volume posts c before step × ClientStepsBehind volume posts (client_step volume posts c step).client step.sent steps

-- and each step gives these lines
unfoldable pub LinesBehind : Volume → List Posted → Client → List TraceStep → List (List Line) → Type 0
LinesBehind volume posts c [] ls = ls ≡ []
LinesBehind volume posts c (step ∷ steps) [] = ⊥
LinesBehind volume posts c (step ∷ steps) (l ∷ ls) =
    IsApart volume c (news_of posts step)
    → (l ≡ (client_step volume posts c step).lines) × LinesBehind volume posts (client_step volume posts c step).client steps ls
