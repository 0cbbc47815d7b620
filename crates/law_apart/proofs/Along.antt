-- Each step's premise holds along a run in which no session is opened.
use Rattle.std.proofs.Common.{◌≡◌, ℕ, ◌^◌, ◌≤◌, false, List, [], ◌∷◌, ◌++◌, inl, inr, refl, subst, arith}
use Rattle.salus_types.specs.declared.names.NodeName.{NodeName}
use Rattle.salus_message.specs.declared.wire.Message.{Message}
use Rattle.salus_message.specs.declared.wire.Message.TheVariants as message
use Rattle.merkle_region.specs.Tree.{IsAmong, NoTwoCollide, path_strings}
use Rattle.merkle_region.proofs.Membership.{among_left, among_right, among_either, none-within}
use Rattle.schedule_text.specs.declared.schedule.Volume.{Volume}
use Rattle.schedule_text.specs.declared.schedule.Event.{Event}
use Rattle.schedule_text.specs.Grammar.{sessions_of}
use Rattle.schedule_text.specs.Limits.{IsWithinLimits}
use Rattle.salus_model.specs.declared.trace.TraceStep.{TraceStep}
use Rattle.volume_model.specs.Contents.{place_of, contents_strings}
use Rattle.salus_model.specs.Judge.{Judge}
use Rattle.salus_model.specs.Following.{Posted, Follows}
use Rattle.salus_model.specs.Hearing.{News, Asks, Says, Crashes, Silence, Past, news_of, since, opens, asks_to_open, judge_of, phase_of}
use Rattle.salus_model.specs.Waiting.{all_taken}
use Rattle.salus_model.specs.Seen.{known_strings, news_strings, strings_of, NoCollision}
use Rattle.salus_model.specs.Due.{past_of, history_from, lines_due}
use Rattle.client_rules.specs.State as state
use Rattle.client_rules.specs.Rules.{new_client, told}
use Rattle.law_lines.specs.Mirrors.{Holds}
use Rattle.law_lines.specs.Ready.{AreReady, event_after, session_after}
use Rattle.law_lines.specs.Scheduled.{ChoicesHold}
use Rattle.law_lines.proofs.Openings.{HasNodes}
use Rattle.law_lines.proofs.Anywhere.{step_as_due}
use Rattle.law_lines.proofs.Followed.{AreFit}
use Rattle.law_lines.specs.Running.{run_lines}
use Rattle.law_lines.proofs.Scripted.{fits_schedule, lines_follow}
use Rattle.law_lines.proofs.Starting.{start_holds, has_nodes}
use Rattle.law_lines.proofs.Whole.{AllScripted, head_written, next_scripted, small_after}
use Rattle.law_history.proofs.Steps.{steps_of_all}
use Rattle.client_premises.specs.Premises.{IsApart}
use Rattle.client_premises.specs.Behind.{AreApart}
use Rattle.law_apart.proofs.Unasked.{none_opens, none_rise}
use Rattle.law_apart.proofs.Phases.{is_gathering, phase_kept, first_phase, not_gathering, none_chosen}
use Rattle.law_apart.proofs.Strings.{array_strings, step_strings}

-- ---- one step

module _ (volume : Volume) (history : List Past) (judge : Judge) (n m : ℕ) where
  pub serving_apart : (c : state.Serving) → Holds volume history judge n m (state.Serves c) → (name : NodeName) (msg : Message)
      → NoTwoCollide (known_strings volume.geometry judge ++ news_strings volume.geometry (Says name msg)) → IsApart volume (state.Serves c) (Says name msg)
  unfolding IsApart
  serving_apart c h name (message.Part d) none = tt
  serving_apart c h name (message.Prepared d) none = tt
  serving_apart c h name (message.Committed d) none = tt
  serving_apart c h name (message.Ask d) none = tt
  serving_apart c h name (message.Answer d) none =
      none-within (contents_strings volume.geometry c.contents ++ path_strings (place_of volume.geometry d.block) d.bytes d.path)
      (known_strings volume.geometry judge ++ path_strings (place_of volume.geometry d.block) d.bytes d.path)
      (λ x among. elim (among_either x (contents_strings volume.geometry c.contents) (path_strings (place_of volume.geometry d.block) d.bytes d.path) among) [
        | inl left ↦
            among_left x (known_strings volume.geometry judge) (path_strings (place_of volume.geometry d.block) d.bytes d.path)
            (array_strings volume.geometry judge x (subst (λ blocks. IsAmong x (contents_strings volume.geometry blocks)) h.mirrors.counts.contents left))
        | inr right ↦ among_right x (known_strings volume.geometry judge) (path_strings (place_of volume.geometry d.block) d.bytes d.path) right
      ])
      none
  serving_apart c h name (message.Gather d) none = tt
  serving_apart c h name (message.Gathered d) none = tt
  serving_apart c h name (message.Stage d) none = tt
  serving_apart c h name (message.Staged d) none = tt
  serving_apart c h name (message.Switch d) none = tt
  serving_apart c h name (message.Switched d) none = tt
  serving_apart c h name (message.Dump d) none = tt
  serving_apart c h name (message.Dumped d) none = tt

  message_apart : (c : state.Client) → Holds volume history judge n m c → is_gathering (phase_of history) ≡ false → (name : NodeName) (msg : Message)
      → NoTwoCollide (known_strings volume.geometry judge ++ news_strings volume.geometry (Says name msg)) → IsApart volume c (Says name msg)
  unfolding IsApart
  message_apart state.Closed h calm name msg none = tt
  message_apart (state.Serves c) h calm name msg none = serving_apart c h name msg none
  message_apart (state.Gathers g) h calm name msg none = absurd (not_gathering (phase_of history) g.session calm h.mirrors.phase)
  message_apart (state.Fetches f) h calm name msg none = tt
  message_apart (state.Stages b) h calm name msg none = tt
  message_apart (state.Switches b) h calm name msg none = tt

  one_apart : (c : state.Client) → Holds volume history judge n m c → is_gathering (phase_of history) ≡ false → (x : News)
      → NoTwoCollide (known_strings volume.geometry judge ++ news_strings volume.geometry x) → IsApart volume c x
  unfolding IsApart
  one_apart c h calm (Asks r) none = tt
  one_apart c h calm (Says name msg) none = message_apart c h calm name msg none
  one_apart c h calm Crashes none = tt
  one_apart c h calm Silence none = tt

-- ---- all steps

module _ (volume : Volume) (events : List Event) (posts : List Posted) (nodes : HasNodes volume.geometry) where
  -- what a step owes, where nothing is chosen
  both_ready : (steps : List TraceStep) (history : List Past) (n m : ℕ) → AreFit events posts n m steps → ChoicesHold volume events posts history steps → AreReady volume events posts history n m steps
  unfolding AreFit ChoicesHold AreReady
  both_ready [] history n m fit choices = tt
  both_ready (step ∷ steps) history n m fit choices = (
    record { fits = fit.0; choice = choices.0 },
    both_ready steps (past_of volume events posts history step ∷ history) (event_after n step.event (news_of posts step)) (session_after m (news_of posts step)) fit.1 choices.1,
  )

  -- from any history on
  apart_from_here : (steps : List TraceStep) (history : List Past) (n m : ℕ) (c : state.Client) → Holds volume history (judge_of volume.geometry events history) n m c → n ≤ 2 ^ 32
      → AllScripted events (all_taken (since opens history)) → AreReady volume events posts history n m steps
      → is_gathering (phase_of history) ≡ false → ((t : TraceStep) → IsAmong t steps → asks_to_open (news_of posts t) ≡ false)
      → NoTwoCollide (strings_of volume.geometry (history_from volume events posts history steps)) → AreApart volume posts c steps
  unfolding AreReady AreApart history_from
  apart_from_here [] history n m c h small script ready calm quiet none = tt
  apart_from_here (step ∷ steps) history n m c h small script ready calm quiet none =
      let judge : Judge = judge_of volume.geometry events history in
      let x : News = news_of posts step in
      let p : Past = past_of volume events posts history step in
      let row = step_as_due volume events history judge n m step nodes c h small (head_written events history judge script) x ready.0 in (
        one_apart volume history judge n m c h calm x (step_strings volume events posts step steps history none),
        apart_from_here steps (p ∷ history) (event_after n step.event x) (session_after m x) (told volume c step.event x).client row.holds
            (small_after events n m step.event x small ready.0.fits) (next_scripted events history p n m ready.0.fits script) ready.1
            (phase_kept history p calm (quiet step (inl refl))) (λ t among. quiet t (inr among)) none,
      )

-- THE LAW: the premises of all steps hold.
pub runs_apart : (volume : Volume) (events : List Event) (posts : List Posted) (trace : List TraceStep) → IsWithinLimits (record { volume = volume; events = events }) → sessions_of events ≡ []
    → Follows events posts trace → NoCollision volume events posts trace → AreApart volume posts (new_client volume.geometry) trace
unfolding AllScripted since all_taken
runs_apart volume events posts trace limits unasked follows none =
    let few = limits.few in
    let nodes : HasNodes volume.geometry = has_nodes volume.geometry limits.volume.small_groups.0 in
    let quiet : (t : TraceStep) → IsAmong t trace → asks_to_open (news_of posts t) ≡ false = none_opens posts events [] [] 1 trace unasked follows in
    apart_from_here volume events posts nodes trace [] 1 2 (new_client volume.geometry) (start_holds volume) (omega arith) tt
    (both_ready volume events posts nodes trace [] 1 2 (fits_schedule events posts trace (omega (arith, few)) (none_rise events 2 unasked) follows) (none_chosen volume events posts trace [] first_phase quiet))
    first_phase quiet (steps_of_all volume events posts trace none)

-- And the lines are those due, without the premise on digests.
pub lines_exact : (volume : Volume) (events : List Event) (posts : List Posted) (trace : List TraceStep) → IsWithinLimits (record { volume = volume; events = events }) → sessions_of events ≡ []
    → Follows events posts trace → run_lines volume events posts trace ≡ lines_due volume events posts trace
lines_exact volume events posts trace limits unasked follows =
    let few = limits.few in
    lines_follow volume events posts trace limits.volume.small_groups.0 (omega (arith, few)) (none_rise events 2 unasked) follows
    (none_chosen volume events posts trace [] first_phase (none_opens posts events [] [] 1 trace unasked follows))
