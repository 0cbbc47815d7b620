-- What a whole run has, by the laws.
use Rattle.std.proofs.Common.{◌≡◌, ◌∙◌, false, List, [], ap, sym, subst}
use Rattle.schedule_text.specs.declared.schedule.Volume.{Volume}
use Rattle.schedule_text.specs.declared.schedule.Event.{Event}
use Rattle.schedule_text.specs.Grammar.{sessions_of}
use Rattle.printed_lines.specs.declared.line.Line.{Line}
use Rattle.salus_model.specs.declared.trace.TraceStep.{TraceStep}
use Rattle.salus_model.specs.Following.{Posted, Follows}
use Rattle.salus_model.specs.Judge.{LegalHistory, KeepsAcknowledged}
use Rattle.salus_model.specs.Guarding.{Guarded}
use Rattle.salus_model.specs.Due.{lines_due, lines_from}
use Rattle.salus_model.specs.Seen.{NoCollision}
use Rattle.salus_model.specs.Forgery.{NoForgery}
use Rattle.salus_model.specs.Complete.{CompleteWhenQuiet, ReadsBesideLies}
use Rattle.client_rules.specs.Rules.{new_client, client_lines}
use Rattle.run_rules.specs.Run.{IsByRules, formatted_first}
use Rattle.run_rules.specs.Running.{formatted}
use Rattle.run_rules.specs.Calm.{Calm}
use Rattle.run_rules.specs.Rooms.{rooms_of}
use Rattle.run_rules.specs.Serving.{ClientByRules}
use Rattle.law_lines.specs.Running.{told_pasts, run_lines}
use Rattle.law_kept.specs.Losing.{NoneIsLost}
use Rattle.law_covered.specs.Coverage.{CoveredThroughout}
use Rattle.run_course.proofs.Going.{Whole, goes_whole}
use Rattle.salus_world.specs.Runs.{Runs}
use Rattle.salus_commands.specs.Replaying.{IsRun}

-- what the laws say of a trace that follows a schedule
pub record Lawful (volume : Volume) (events : List Event) (posts : List Posted) (trace : List TraceStep) (told : List (List Line)) : Type 0 where
  pub steps : NoCollision volume events posts trace → NoForgery volume events posts trace → ClientByRules volume (new_client volume.geometry) posts trace
  pub lines : NoCollision volume events posts trace → NoForgery volume events posts trace → told ≡ client_lines volume posts (new_client volume.geometry) trace
  pub due : NoCollision volume events posts trace → NoForgery volume events posts trace → run_lines volume events posts trace ≡ lines_due volume events posts trace
  pub legal : NoCollision volume events posts trace → NoForgery volume events posts trace → IsByRules volume (formatted_first volume) posts trace
      → LegalHistory volume.geometry events (run_lines volume events posts trace)
  pub kept : NoCollision volume events posts trace → NoForgery volume events posts trace → IsByRules volume (formatted_first volume) posts trace → Guarded volume events posts trace
      → KeepsAcknowledged volume.geometry events (lines_due volume events posts trace) × NoneIsLost (lines_due volume events posts trace)
  pub covered : NoCollision volume events posts trace → NoForgery volume events posts trace → IsByRules volume (formatted_first volume) posts trace → Guarded volume events posts trace
      → CoveredThroughout volume events posts trace
  pub reads : NoCollision volume events posts trace → NoForgery volume events posts trace → Calm events trace → IsByRules volume (formatted_first volume) posts trace
      → ReadsBesideLies volume events posts (rooms_of volume.geometry posts (formatted volume)) trace
  pub reads_handed : NoCollision volume events posts trace → NoForgery volume events posts trace → Calm events trace → IsByRules volume (formatted_first volume) posts trace
      → Guarded volume events posts trace → ReadsBesideLies volume events posts (λ earlier step. false) trace
  pub answers : NoCollision volume events posts trace → NoForgery volume events posts trace → Calm events trace → IsByRules volume (formatted_first volume) posts trace
      → CompleteWhenQuiet volume events posts trace
  pub closed_steps : sessions_of events ≡ [] → NoCollision volume events posts trace → ClientByRules volume (new_client volume.geometry) posts trace
  pub closed_lines : sessions_of events ≡ [] → NoCollision volume events posts trace → told ≡ client_lines volume posts (new_client volume.geometry) trace
  pub closed_due : sessions_of events ≡ [] → run_lines volume events posts trace ≡ lines_due volume events posts trace

-- a run by its course
pub of_run : (volume : Volume) (events : List Event) (lines : List Line) (posts : List Posted) (r : Runs volume events lines posts)
    → (Follows events posts r.course.trace → Lawful volume events posts r.course.trace r.course.told) → IsRun volume events posts r.course.trace r.course.told lines
of_run volume events lines posts r laws =
    let whole : Whole volume posts events r.course = goes_whole volume posts events r.course r.goes r.all in
    let law = laws whole.follows in
    let printed = r.lines_told ∙ whole.lines in
    let by_client : r.course.told ≡ client_lines volume posts (new_client volume.geometry) r.course.trace → lines ≡ run_lines volume events posts r.course.trace =
    λ same. printed ∙ ap (λ (ls : List (List Line)). lines_from volume events posts 0 1 events (told_pasts volume r.course.trace ls)) same in
    record {
      follows = whole.follows;
      calm = r.calm;
      nodes = r.nodes;
      client = r.client;
      client_lines = r.told;
      printed = printed;
      by_rules = law.steps;
      exact = λ none unforged. by_client (law.lines none unforged) ∙ law.due none unforged;
      legal = λ none unforged.
          subst (LegalHistory volume.geometry events) (sym (by_client (law.lines none unforged))) (law.legal none unforged (record { nodes = r.nodes; client = law.steps none unforged }));
      kept = λ none unforged guarded.
          let told = law.kept none unforged (record { nodes = r.nodes; client = law.steps none unforged }) guarded in
          let same = sym (by_client (law.lines none unforged) ∙ law.due none unforged) in
          (subst (KeepsAcknowledged volume.geometry events) same told.0, subst NoneIsLost same told.1);
      covered = λ none unforged guarded. law.covered none unforged (record { nodes = r.nodes; client = law.steps none unforged }) guarded;
      reads = λ none unforged. law.reads none unforged r.calm (record { nodes = r.nodes; client = law.steps none unforged });
      reads_handed = λ none unforged guarded. law.reads_handed none unforged r.calm (record { nodes = r.nodes; client = law.steps none unforged }) guarded;
      answers = λ none unforged. law.answers none unforged r.calm (record { nodes = r.nodes; client = law.steps none unforged });
      closed_by_rules = law.closed_steps;
      closed_exact = λ closed none. by_client (law.closed_lines closed none) ∙ law.closed_due closed;
    }
