-- The lines are those due, and legal, from the two facts of every run.
use Rattle.std.proofs.Common.{◌≡◌, List, [], sym, subst, arith}
use Rattle.schedule_text.specs.declared.schedule.Volume.{Volume}
use Rattle.schedule_text.specs.declared.schedule.Event.{Event}
use Rattle.schedule_text.specs.Limits.{IsWithinLimits}
use Rattle.salus_model.specs.declared.trace.TraceStep.{TraceStep}
use Rattle.salus_model.specs.Judge.{LegalHistory}
use Rattle.salus_model.specs.Following.{Posted, Follows}
use Rattle.salus_model.specs.Due.{lines_due}
use Rattle.salus_model.specs.Forgery.{NoForgery}
use Rattle.salus_model.specs.Seen.{NoCollision}
use Rattle.law_lines.specs.Running.{run_lines}
use Rattle.law_lines.proofs.Scripted.{lines_follow}
use Rattle.law_history.specs.Handing.{ClientPostsTagged, NodesShowHanded}
use Rattle.law_history.proofs.Steps.{steps_of_all}
use Rattle.law_history.proofs.Concluded.{concluded}
use Rattle.law_runs.proofs.Rising.{sessions_rise}
use Rattle.law_runs.proofs.Choices.{choices_hold}

pub lines_are_legal : (volume : Volume) (events : List Event) (posts : List Posted) (trace : List TraceStep)
    → IsWithinLimits (record { volume = volume; events = events }) → Follows events posts trace
    → NoCollision volume events posts trace → NoForgery volume events posts trace
    → NodesShowHanded volume posts [] trace → ClientPostsTagged volume events posts [] trace
    → (run_lines volume events posts trace ≡ lines_due volume events posts trace) × LegalHistory volume.geometry events (run_lines volume events posts trace)
lines_are_legal volume events posts trace limits follows none unforged shows tags =
    let right = concluded volume events posts trace limits.rising follows (steps_of_all volume events posts trace none) unforged shows tags in
    let few = limits.few in
    let due = lines_follow volume events posts trace limits.volume.small_groups.0 (omega (arith, few)) (sessions_rise events 1 2 (omega arith) limits.rising) follows
    (choices_hold volume events posts trace [] right.1) in
    (due, subst (LegalHistory volume.geometry events) (sym due) right.0)
