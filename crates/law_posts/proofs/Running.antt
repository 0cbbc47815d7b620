-- In every run of the client by its rules what it posts is tagged.
use Rattle.std.proofs.Common.{◌≤◌, List, [], arith}
use Rattle.schedule_text.specs.Limits.{IsWithinLimits}
use Rattle.schedule_text.specs.declared.schedule.Volume.{Volume}
use Rattle.schedule_text.specs.declared.schedule.Event.{Event}
use Rattle.salus_model.specs.declared.trace.TraceStep.{TraceStep}
use Rattle.salus_model.specs.Following.{Posted, Follows}
use Rattle.salus_model.specs.Hearing.{since}
use Rattle.salus_model.specs.Waiting.{all_taken}
use Rattle.client_rules.specs.Rules.{new_client}
use Rattle.run_rules.specs.Serving.{ClientByRules}
use Rattle.law_lemmas.proofs.Settled.{start_settled}
use Rattle.law_lemmas.proofs.WellSent.{well_sent}
use Rattle.law_lines.proofs.Starting.{start_holds, has_nodes}
use Rattle.law_lines.proofs.Whole.{AllScripted}
use Rattle.law_lines.proofs.Scripted.{fits_schedule}
use Rattle.law_history.specs.Handing.{ClientPostsTagged}
use Rattle.law_runs.proofs.Rising.{sessions_rise}
use Rattle.law_posts.specs.Spelling.{AllSpellable}
use Rattle.law_posts.proofs.Along.{IsAlong, along_tagged}

first_along : (volume : Volume) (events : List Event) (posts : List Posted) (many : 1 ≤ volume.geometry.replicas) → IsAlong volume events posts (has_nodes volume.geometry many) [] 1 1 (new_client volume.geometry)
unfolding AllScripted since all_taken
first_along volume events posts many = record {
  holds = start_holds volume;
  small = omega arith;
  script = tt;
  tidy = record { settled = start_settled volume.geometry; opens = tt; keeps = λ rec among. absurd among };
}

pub client_tags : (volume : Volume) (events : List Event) (posts : List Posted) (trace : List TraceStep) → IsWithinLimits (record { volume = volume; events = events })
    → Follows events posts trace → AllSpellable volume posts trace → ClientByRules volume (new_client volume.geometry) posts trace → ClientPostsTagged volume events posts [] trace
client_tags volume events posts trace limits follows spelled by =
    let few = limits.few in
    let many = limits.volume.small_groups.0 in
    along_tagged volume events posts (has_nodes volume.geometry many) trace [] 1 1 (new_client volume.geometry)
    (fits_schedule events posts trace (omega (arith, few)) (sessions_rise events 1 2 (omega arith) limits.rising) follows) by (well_sent posts events [] [] 1 trace follows) spelled
    (λ chose. first_along volume events posts many)
