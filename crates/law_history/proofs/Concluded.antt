-- The law with its last premise derived: from no forgery, and from what holds of nodes and client in every run.
use Rattle.std.proofs.Common.{List, []}
use Rattle.schedule_text.specs.declared.schedule.Volume.{Volume}
use Rattle.schedule_text.specs.declared.schedule.Event.{Event}
use Rattle.schedule_text.specs.Grammar.{RisesFrom, sessions_of}
use Rattle.salus_model.specs.declared.trace.TraceStep.{TraceStep}
use Rattle.salus_model.specs.Judge.{LegalHistory, KeepsAcknowledged}
use Rattle.salus_model.specs.Following.{Posted, Follows}
use Rattle.salus_model.specs.Due.{history_from, lines_due}
use Rattle.salus_model.specs.Forgery.{NoForgery}
use Rattle.salus_model.specs.Seen.{strings_of}
use Rattle.law_lemmas.proofs.WellSent.{well_sent}
use Rattle.law_history.proofs.Steps.{NoStepCollides}
use Rattle.law_history.specs.Keeping.{KeepsChoiceFrom}
use Rattle.law_history.specs.Choosing.{ChoosesRightFrom}
use Rattle.law_history.specs.Handing.{NodesShowHanded, ClientPostsTagged}
use Rattle.law_history.proofs.Supplied.{supplied_from, told_nothing}
use Rattle.law_history.proofs.Continued.{supplied}

pub concluded : (volume : Volume) (events : List Event) (posts : List Posted) (trace : List TraceStep) → RisesFrom 1 (sessions_of events)
    → Follows events posts trace → NoStepCollides volume events posts trace → NoForgery volume events posts trace
    → NodesShowHanded volume posts [] trace → ClientPostsTagged volume events posts [] trace
    → LegalHistory volume.geometry events (lines_due volume events posts trace) × ChoosesRightFrom volume events posts [] trace
    × (KeepsChoiceFrom volume events posts [] trace → KeepsAcknowledged volume.geometry events (lines_due volume events posts trace))
concluded volume events posts trace rises follows none unforged shows tags =
    supplied volume events posts trace rises follows none
    (supplied_from volume events (strings_of volume.geometry (history_from volume events posts [] trace)) none posts trace []
    (told_nothing volume events (strings_of volume.geometry (history_from volume events posts [] trace)) none posts)
    (well_sent posts events [] [] 1 trace follows) shows tags unforged)
