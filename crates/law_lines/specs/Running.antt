-- The lines that the client's rules give over a run.
use Rattle.std.specs.Prelude.{List, [], ◌∷◌}
use Rattle.schedule_text.specs.declared.schedule.Volume.{Volume}
use Rattle.schedule_text.specs.declared.schedule.Event.{Event}
use Rattle.printed_lines.specs.declared.line.Line.{Line}
use Rattle.salus_model.specs.declared.trace.TraceStep.{TraceStep}
use Rattle.salus_model.specs.Judge.{start_judge}
use Rattle.salus_model.specs.Following.{Posted}
use Rattle.salus_model.specs.Hearing.{Past, Silence}
use Rattle.salus_model.specs.Due.{lines_from}
use Rattle.client_rules.specs.Rules.{new_client, client_lines}

-- each step with the lines that it gave; the rest of a past is of no account to `lines_from`
unfoldable pub told_pasts : Volume → List TraceStep → List (List Line) → List Past
told_pasts volume [] ls = []
told_pasts volume (step ∷ steps) [] = []
told_pasts volume (step ∷ steps) (l ∷ ls) = record { step = step; news = Silence; before = start_judge volume.geometry; lines = l } ∷ told_pasts volume steps ls

-- the client's lines, with those of the events that are skipped in their places
abbrev pub run_lines : Volume → List Event → List Posted → List TraceStep → List Line
run_lines volume events posts trace =
    lines_from volume events posts 0 1 events (told_pasts volume trace (client_lines volume posts (new_client volume.geometry) trace))
