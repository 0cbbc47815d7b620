-- A quiet run is complete.
use Rattle.std.proofs.Common.{◌≡◌, ℕ, ◌≤◌, true, List, [], sym, append-nil}
use Rattle.std.proofs.lemmas.Nat.{pow_pos}
use Rattle.salus_types.specs.declared.names.NodeName.{NodeName}
use Rattle.salus_types.specs.declared.names.Sender.TheVariants as sender
use Rattle.schedule_text.specs.Limits.{IsOfVolume, IsWithinLimits}
use Rattle.schedule_text.specs.declared.schedule.Volume.{Volume}
use Rattle.schedule_text.specs.declared.schedule.Event.{Event}
use Rattle.salus_model.specs.declared.trace.TraceStep.{TraceStep}
use Rattle.salus_model.specs.Complete.{AllTaken, Complete, CompleteWhenQuiet}
use Rattle.salus_model.specs.Due.{history_from}
use Rattle.salus_model.specs.Following.{Follows, Posted}
use Rattle.salus_model.specs.Forgery.{NoForgery}
use Rattle.salus_model.specs.Hearing.{judge_of, is_serving, phase_of}
use Rattle.salus_model.specs.Quiet.{Quiet}
use Rattle.salus_model.specs.Seen.{NoCollision}
use Rattle.run_rules.specs.Calm.{Calm}
use Rattle.run_rules.specs.Rooms.{rooms_of}
use Rattle.run_rules.specs.Run.{IsByRules, formatted_first}
use Rattle.run_rules.specs.Running.{formatted}
use Rattle.law_claimed.specs.Accounting.{BlocksCome, history_of}
use Rattle.law_claimed.specs.Acknowledging.{ClaimsWithin}
use Rattle.law_claimed.specs.Knowing.{IsOwnBatch, Leads}
use Rattle.law_claimed.proofs.Acknowledged.{batches_acknowledged}
use Rattle.law_claimed.proofs.Requested.{requests_done}
use Rattle.law_complete.proofs.Run.{quiet_faultless}
use Rattle.law_complete.proofs.HearingLaw.{claims_within}
use Rattle.law_complete.specs.Beginning.{front_at}
use Rattle.law_complete.proofs.Votes.{votes_rooted}
use Rattle.law_complete.proofs.RoomsLaw.{quiet_taken}
use Rattle.law_complete.proofs.QuestionsLaw.{none_left}
use Rattle.law_complete.proofs.Brought.{all_brought}
use Rattle.law_complete.proofs.Window.{window_claimed}
use Rattle.law_complete.proofs.ClaimsHeard.{claims_heard}
use Rattle.law_complete.proofs.OpeningEnded.{opened}
use Rattle.law_complete.proofs.FaultsQuietly.{none_lied, quiet_sound}
use Rattle.law_complete.proofs.Ending.{client_serves, now_countable}
use Rattle.law_complete.proofs.Served.{claimed_at_end}

module _ (volume : Volume) (events : List Event) (posts : List Posted) (trace : List TraceStep) (limits : IsWithinLimits (record { volume = volume; events = events })) (follows : Follows events posts trace)
    (none : NoCollision volume events posts trace) (unforged : NoForgery volume events posts trace) (calm : Calm events trace) (by : IsByRules volume (formatted_first volume) posts trace) (quiet : Quiet events posts trace) where
  abbrev first_name : NodeName
  first_name = record { region = 0; replica = 0 }

  first_inside : IsOfVolume volume.geometry first_name
  first_inside = (pow_pos volume.geometry.regions_log, limits.volume.small_groups.0)

  taken : (name : NodeName) → IsOfVolume volume.geometry name → AllTaken posts (rooms_of volume.geometry posts (formatted volume)) trace name
  taken = quiet_taken volume events posts trace limits follows none unforged calm by quiet

  fronts_claimed : is_serving (phase_of (history_of volume events posts trace)) ≡ true → (b : ℕ) → IsOwnBatch (judge_of volume.geometry events (history_of volume events posts trace)).now b → (name : NodeName)
      → Leads volume.geometry (judge_of volume.geometry events (history_of volume events posts trace)).now b name → b ≤ front_at volume posts trace name
  fronts_claimed serving =
      let unlied = none_lied events quiet.events_quiet sender.Client in
      let sound = quiet_sound events quiet.events_quiet posts trace follows first_name in
      let s = client_serves volume events posts trace limits follows none unforged calm by unlied first_name first_inside sound serving in
      claimed_at_end volume events posts trace limits follows none unforged calm by quiet s.0 s.1
      (now_countable volume events posts trace limits follows none unforged calm by unlied first_name first_inside sound) taken
      (λ name inside. votes_rooted volume events posts trace limits follows none unforged calm by quiet name inside trace [] (sym (append-nil trace)) s.0 s.1) (all_brought volume events posts trace limits follows none unforged calm by quiet) (window_claimed volume events posts trace limits follows none unforged calm by quiet s.0 s.1)

  come : BlocksCome volume.geometry events (history_of volume events posts trace)
  come = record { faultless = quiet_faultless volume events posts trace limits follows none unforged by quiet; answered = none_left volume events posts trace limits follows none unforged calm by quiet taken }

  within : ClaimsWithin (history_of volume events posts trace)
  within = claims_within volume events posts trace limits follows none unforged by (none_lied events quiet.events_quiet sender.Client) (λ name. quiet_sound events quiet.events_quiet posts trace follows name)

  complete_at_end : Complete volume.geometry events (history_from volume events posts [] trace)
  complete_at_end = record {
    requests = requests_done volume events posts trace limits follows none unforged by come (batches_acknowledged volume events posts trace limits follows none unforged by within (claims_heard volume events posts trace limits follows none unforged calm by quiet fronts_claimed));
    opening = opened volume events posts trace limits follows none unforged calm by quiet;
  }

-- THE LAW.
pub complete_when_quiet : (volume : Volume) (events : List Event) (posts : List Posted) (trace : List TraceStep) → IsWithinLimits (record { volume = volume; events = events }) → Follows events posts trace
    → NoCollision volume events posts trace → NoForgery volume events posts trace → Calm events trace → IsByRules volume (formatted_first volume) posts trace → CompleteWhenQuiet volume events posts trace
complete_when_quiet volume events posts trace limits follows none unforged calm by quiet = complete_at_end volume events posts trace limits follows none unforged calm by quiet
