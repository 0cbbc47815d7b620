-- Of a run by the rules each step is given.
use Rattle.std.proofs.Common.{◌≡◌, ℕ, ◌^◌, false, List, [], ◌∷◌, refl, arith}
use Rattle.schedule_text.specs.Limits.{IsWithinLimits}
use Rattle.schedule_text.specs.declared.schedule.Volume.{Volume}
use Rattle.schedule_text.specs.declared.schedule.Event.{Event}
use Rattle.merkle_region.specs.Tree.{IsAmong}
use Rattle.salus_types.specs.declared.names.Sender.TheVariants as sender
use Rattle.salus_model.specs.declared.trace.TraceStep.{TraceStep}
use Rattle.salus_model.specs.Following.{Posted, Follows}
use Rattle.salus_model.specs.Forgery.{NoForgery}
use Rattle.salus_model.specs.Seen.{NoCollision}
use Rattle.salus_model.specs.Hearing.{Past, news_of}
use Rattle.salus_model.specs.Guarding.{is_lied_for}
use Rattle.salus_model.specs.Due.{past_of}
use Rattle.salus_model.specs.Complete.{Rooms, ReadsBesideLies}
use Rattle.run_rules.specs.Calm.{Calm}
use Rattle.run_rules.specs.Run.{IsByRules, formatted_first}
use Rattle.run_rules.specs.Running.{formatted}
use Rattle.list_lemmas.proofs.Each.{all_then}
use Rattle.list_lemmas.proofs.Members.{all_among}
use Rattle.law_lemmas.proofs.WellSent.{well_sent}
use Rattle.law_lines.specs.Ready.{AreReady, event_after, session_after}
use Rattle.law_lines.specs.Scheduled.{ChoicesHold}
use Rattle.law_lines.proofs.Starting.{has_nodes}
use Rattle.law_lines.proofs.Followed.{AreFit}
use Rattle.law_lines.proofs.Scripted.{fits_schedule}
use Rattle.law_history.proofs.Steps.{steps_of_all}
use Rattle.law_history.proofs.Concluded.{concluded}
use Rattle.law_runs.proofs.Rising.{sessions_rise}
use Rattle.law_runs.proofs.Choices.{choices_hold}
use Rattle.law_shown.proofs.Along.{nodes_show}
use Rattle.law_posts.specs.Spelling.{IsSpellable}
use Rattle.law_posts.proofs.Running.{client_tags}
use Rattle.law_ranged.specs.Ranging.{IsSentWithin}
use Rattle.law_ranged.proofs.Along.{runs_within}
use Rattle.law_handed.specs.Fitting as fitting
use Rattle.law_handed.proofs.Blocks.{spelled_closed}
use Rattle.law_handed.proofs.Ranged.{fresh_fits}
use Rattle.law_shown.proofs.Formatting.{formatted_fits}
use Rattle.law_shown.proofs.Bringing.{all_spelled}
use Rattle.law_reads.proofs.Low.{fresh_low}
use Rattle.law_reads.proofs.Views.{held_low}
use Rattle.law_reads.specs.Serving.{SoundServe}
use Rattle.law_reads.proofs.Events.{of_events}
use Rattle.law_reads.proofs.Given.{IsSpelled}
use Rattle.law_reads.proofs.Beside.{read_beside}

-- with what each restart chooses
ready_of : (volume : Volume) (events : List Event) (posts : List Posted) (steps : List TraceStep) (history : List Past) (n m : ℕ) → AreFit events posts n m steps
    → ChoicesHold volume events posts history steps → AreReady volume events posts history n m steps
unfolding AreFit ChoicesHold AreReady
ready_of volume events posts [] history n m fit choices = tt
ready_of volume events posts (step ∷ steps) history n m fit choices = (
  record { fits = fit.0; choice = choices.0 },
  ready_of volume events posts steps (past_of volume events posts history step ∷ history) (event_after n step.event (news_of posts step)) (session_after m (news_of posts step)) fit.1 choices.1,
)

-- The law: in a run by the rules in which each sound server serves, reads end beside lies.
pub reads_end_beside : (volume : Volume) (events : List Event) (posts : List Posted) (trace : List TraceStep) → IsWithinLimits (record { volume = volume; events = events })
    → Follows events posts trace → NoCollision volume events posts trace → NoForgery volume events posts trace → Calm events trace → IsByRules volume (formatted_first volume) posts trace
    → (is_full : Rooms) → (is_lied_for events sender.Client ≡ false → SoundServe volume events posts is_full trace (formatted volume)) → ReadsBesideLies volume events posts is_full trace
reads_end_beside volume events posts trace limits follows none unforged calm by is_full serving =
    let kept = runs_within volume events posts trace limits follows by in
    let tags =
    client_tags volume events posts trace limits follows (all_then (IsSentWithin volume.geometry) (λ l. IsSpellable l.message) (λ l sent. (sent.counts, sent.widths)) _ kept.2) by.client in
    let shows = nodes_show volume events posts trace limits.volume follows kept.1 kept.0 by.nodes in
    let right = concluded volume events posts trace limits.rising follows (steps_of_all volume events posts trace none) unforged shows tags in
    let few = limits.few in
    let fit = fits_schedule events posts trace (omega (arith, few)) (sessions_rise events 1 2 (omega arith) limits.rising) follows in
    read_beside volume events posts (has_nodes volume.geometry limits.volume.small_groups.0) limits.volume is_full trace (formatted volume)
    (λ name v b region group replica sound. record {
      ready = ready_of volume events posts trace [] 1 2 fit (choices_hold volume events posts trace [] right.1);
      node = by.nodes name;
      client = by.client;
      well = well_sent posts events [] [] 1 trace follows;
      of = of_events events posts events (λ e among. among) [] [] 1 trace follows;
      calm = calm;
      spelled = all_then (IsSentWithin volume.geometry) IsSpelled (λ l sent. (sent.counts, sent.widths)) _ kept.2;
      inside = all_among (λ (t : TraceStep). IsAmong t trace) trace (λ t among. among);
      speaks = refl;
      addressed = kept.0;
      fit = λ within. fresh_fits volume.geometry fitting.IsSpelled fitting.IsSpelled (fitting.IsShaped volume.geometry) (spelled_closed volume.geometry) name.region (formatted volume name) (formatted_fits volume name limits.volume within);
      low = λ within. fresh_low volume.geometry (2 ^ 64) name.region (formatted volume name) (held_low volume.geometry (formatted volume name) (formatted_fits volume name limits.volume within));
      letters = all_spelled posts name trace kept.1;
    }) serving
