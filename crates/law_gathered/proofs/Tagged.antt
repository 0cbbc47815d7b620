-- What the next step shows the client was tagged before, where the premises of the steps before it hold: these steps are then by
-- the rules of both parties.
use Rattle.std.proofs.Common.{◌≡◌, ℕ, List, [], ◌∷◌, ◌++◌, subst, arith}
use Rattle.merkle_region.specs.Tree.{NoTwoCollide}
use Rattle.schedule_text.specs.Limits.{IsWithinLimits}
use Rattle.schedule_text.specs.declared.schedule.Volume.{Volume}
use Rattle.schedule_text.specs.declared.schedule.Event.{Event}
use Rattle.salus_model.specs.declared.trace.TraceStep.{TraceStep}
use Rattle.salus_model.specs.Following.{Posted}
use Rattle.salus_model.specs.Hearing.{Past, since}
use Rattle.salus_model.specs.Waiting.{all_taken}
use Rattle.salus_model.specs.Due.{past_of, history_from}
use Rattle.client_rules.specs.State.{Client}
use Rattle.client_rules.specs.Rules.{new_client}
use Rattle.run_rules.specs.Running.{NodesByRules, formatted}
use Rattle.run_rules.specs.Serving.{ClientByRules}
use Rattle.client_premises.specs.Behind.{AreApart, ClientStepsBehind}
use Rattle.client_premises.proofs.Along.{sent_after, steps_apart}
use Rattle.list_lemmas.proofs.Each.{all_then}
use Rattle.law_lemmas.proofs.Settled.{start_settled}
use Rattle.law_lemmas.proofs.WellSent.{AreWellSent}
use Rattle.law_lines.proofs.Starting.{start_holds, has_nodes}
use Rattle.law_lines.proofs.Whole.{AllScripted}
use Rattle.law_lines.proofs.Followed.{AreFit}
use Rattle.law_shown.proofs.Along.{steps_show}
use Rattle.law_history.specs.Handing.{ClientPostsTagged, NodesShowHanded}
use Rattle.law_history.proofs.Standing.{IsReached}
use Rattle.law_history.proofs.Shown.{ShowsTagged}
use Rattle.law_history.proofs.Runs.{AllTagged, judge_at, tagged_rest}
use Rattle.law_history.proofs.Supplied.{supplied_from, told_nothing}
use Rattle.law_posts.specs.Spelling.{IsSpellable}
use Rattle.law_posts.proofs.Along.{IsAlong, along_tagged}
use Rattle.law_ranged.specs.Ranging.{IsSentWithin}
use Rattle.law_ranged.proofs.Along.{steps_within}
use Rattle.law_ranged.proofs.Scheduled.{AllWithin}
use Rattle.law_gathered.proofs.Fronts.{silent, fit_front, well_front, within_front, steps_front, behind_front, well_silent, shows_silent, tags_silent, LiesTagged, lies_silent}

module _ (volume : Volume) (events : List Event) (posts : List Posted) (limits : IsWithinLimits (record { volume = volume; events = events })) where
  abbrev first_client : Client
  first_client = new_client volume.geometry

  -- what is given of a run's steps, of all or of a front part
  pub record AreGiven (steps : List TraceStep) : Type 0 where
    pub fit : AreFit events posts 1 2 steps
    pub well : AreWellSent posts [] steps
    pub within : AllWithin volume.geometry posts 1 steps
    pub nodes : NodesByRules volume.geometry (formatted volume) posts steps
    pub behind : ClientStepsBehind volume posts first_client 0 steps
    pub lies : LiesTagged volume events posts [] steps

  first_along : IsAlong volume events posts (has_nodes volume.geometry limits.volume.small_groups.0) [] 1 1 first_client
  unfolding AllScripted since all_taken
  first_along = record {
    holds = start_holds volume;
    small = omega arith;
    script = tt;
    tidy = record { settled = start_settled volume.geometry; opens = tt; keeps = λ rec among. absurd among };
  }

  -- what holds of steps whose premises hold
  record AreSound (steps : List TraceStep) : Type 0 where
    pub shows : NodesShowHanded volume posts [] steps
    pub tags : ClientPostsTagged volume events posts [] steps

  sound : (steps : List TraceStep) → AreFit events posts 1 2 steps → AreWellSent posts [] steps → AllWithin volume.geometry posts 1 steps
      → NodesByRules volume.geometry (formatted volume) posts steps → ClientByRules volume first_client posts steps → AreSound steps
  sound steps fit well within nodes client =
      let kept = steps_within volume limits.volume posts steps within well nodes client in
      record {
        shows = steps_show volume posts limits.volume steps kept.1 kept.0 well nodes;
        tags = along_tagged volume events posts (has_nodes volume.geometry limits.volume.small_groups.0) steps [] 1 1 first_client fit client well
            (all_then (IsSentWithin volume.geometry) (λ l. IsSpellable l.message) (λ l sent. (sent.counts, sent.widths)) _ kept.2)
            (λ chose. first_along);
      }

  front_sound : (front rest : List TraceStep) → AreGiven (front ++ rest) → AreApart volume posts first_client front → AreSound front
  front_sound front rest given apart =
      sound front (fit_front volume events posts front rest 1 2 given.fit) (well_front volume events posts front rest [] given.well) (within_front volume events posts front rest 1 given.within)
      (λ name. steps_front volume events posts name _ 0 front rest (given.nodes name))
      (steps_apart volume posts first_client 0 front (behind_front volume events posts first_client 0 front rest given.behind) apart)

  module _ (strings : List (List ℕ)) (none : NoTwoCollide strings) where
    -- the genuine records that the next step shows the client were tagged before it
    pub next_shows : (front rest : List TraceStep) (t : TraceStep) → AreGiven (front ++ t ∷ rest) → AreApart volume posts first_client front
        → (history : List Past) → history_from volume events posts [] front ≡ history → IsReached volume events strings history (judge_at volume events strings none posts history)
        → ShowsTagged volume events strings none posts (past_of volume events posts history t)
    next_shows front rest t given apart history is reached =
        let still : TraceStep = silent (sent_after volume posts 0 front) t in
        let steps : List TraceStep = front ++ still ∷ [] in
        let right = front_sound front (t ∷ rest) given apart in
        let all : AllTagged volume events strings none posts [] steps =
        supplied_from volume events strings none posts steps [] (told_nothing volume events strings none posts) (well_silent volume events posts front rest [] t given.well)
        (shows_silent volume events posts front [] t right.shows) (tags_silent volume events posts front [] t right.tags) (lies_silent volume events posts front rest [] t (sent_after volume posts 0 front) given.lies) in
        let here : AllTagged volume events strings none posts history (still ∷ []) =
        subst (λ (h : List Past). AllTagged volume events strings none posts h (still ∷ [])) is (tagged_rest volume events strings none posts front (still ∷ []) [] all) in
        here.0 reached
