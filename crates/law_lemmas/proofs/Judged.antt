-- A judge after some lines, and others behind them.
use Rattle.std.proofs.Common.{◌≡◌, List, [], ◌∷◌, ◌++◌, refl}
use Rattle.schedule_text.specs.declared.schedule.Event.{Event}
use Rattle.printed_lines.specs.declared.line.Line.{Line}
use Rattle.salus_model.specs.Judge.{Judge, judged, judged_all}

pub judged_all-append : (events : List Event) (judge : Judge) (lines rest : List Line)
    → judged_all events judge (lines ++ rest) ≡ judged_all events (judged_all events judge lines) rest
unfolding judged_all
judged_all-append events judge [] rest = refl
judged_all-append events judge (l ∷ lines) rest = judged_all-append events (judged events judge l) lines rest
