-- Premises of the law of lines that speak of the schedule alone, and of what restarts choose.
use Rattle.std.specs.Prelude.{◌≡◌, ℕ, ◌+◌, ◌≤◌, List, [], ◌∷◌}
use Rattle.schedule_text.specs.declared.schedule.Volume.{Volume}
use Rattle.schedule_text.specs.declared.schedule.Event.{Event}
use Rattle.schedule_text.specs.declared.schedule.Event.TheVariants as event
use Rattle.salus_model.specs.declared.trace.TraceStep.{TraceStep}
use Rattle.salus_model.specs.Following.{Posted}
use Rattle.salus_model.specs.Hearing.{Past, news_of, news_since, begins, judge_of, Gathering, phase_of}
use Rattle.salus_model.specs.Opening.{replies_to}
use Rattle.salus_model.specs.Due.{past_of}
use Rattle.law_lines.specs.Mirrors.{ChoiceHolds}

-- the sessions of restarts and reassignments rise, from m on, as the schedule's text demands
unfoldable pub SessionsRise : ℕ → List Event → Type 0
SessionsRise m [] = Unit {0}
SessionsRise m (event.Restart e ∷ es) = (m ≤ e) × SessionsRise (e + 1) es
SessionsRise m (event.Reassign e g ∷ es) = (m ≤ e) × SessionsRise (e + 1) es
SessionsRise m (other ∷ es) = SessionsRise m es

-- At each step: once all replies to a restart are in, what is chosen is a front part of a known session's list.
unfoldable pub ChoicesHold : Volume → List Event → List Posted → List Past → List TraceStep → Type 0
ChoicesHold volume events posts history [] = Unit {0}
ChoicesHold volume events posts history (step ∷ steps) =
    ((e : ℕ) → phase_of history ≡ Gathering e → ChoiceHolds volume (judge_of volume.geometry events history) (replies_to e (news_of posts step ∷ news_since begins history)))
    × ChoicesHold volume events posts (past_of volume events posts history step ∷ history) steps
