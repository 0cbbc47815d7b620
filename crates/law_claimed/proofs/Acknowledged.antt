-- The law of acknowledgements: in a run in which the client hears of no claim above its last number, and at the end has heard
-- all claims of each batch, every batch is acknowledged.
use Rattle.std.proofs.Common.{◌≡◌, ◌∙◌, ℕ, zero, suc, ◌+◌, ◌-◌, ◌^◌, ◌<◌, ◌≤◌, nat_le, true, false, List, [], ◌∷◌, map, drop, length, refl, sym, ap, subst, arith}
use Rattle.std.specs.Prelude.{slice_index_or}
use Rattle.std.proofs.lemmas.Bool.{true≢false, leb-true, leb-false}
use Rattle.salus_types.specs.Volume.{Shape}
use Rattle.salus_types.specs.declared.names.NodeName.{NodeName}
use Rattle.schedule_text.specs.Limits.{IsWithinLimits}
use Rattle.schedule_text.specs.declared.schedule.Volume.{Volume}
use Rattle.schedule_text.specs.declared.schedule.Event.{Event}
use Rattle.volume_model.specs.Contents.{Batch}
use Rattle.volume_model.specs.Groups.{group_of}
use Rattle.volume_model.specs.Parts.{batch_at, leader_of}
use Rattle.salus_model.specs.declared.trace.TraceStep.{TraceStep}
use Rattle.salus_model.specs.Judge.{Judge, last_number}
use Rattle.salus_model.specs.Following.{Posted, Follows}
use Rattle.salus_model.specs.Forgery.{NoForgery}
use Rattle.salus_model.specs.Seen.{NoCollision}
use Rattle.salus_model.specs.Hearing.{News, Past, news_of, judge_of, since, opens, Serving, is_serving, phase_of}
use Rattle.salus_model.specs.Waiting.{all_taken}
use Rattle.salus_model.specs.Due.{past_of, history_from}
use Rattle.client_rules.specs.State as state
use Rattle.client_rules.specs.State.{Unacked, Client, Closed, Serves, Gathers, Fetches, Stages, Switches}
use Rattle.client_rules.specs.Tables.{claim_of, all_claimed}
use Rattle.client_rules.specs.Rules.{new_client, told}
use Rattle.run_rules.specs.Run.{IsByRules, formatted_first}
use Rattle.list_lemmas.proofs.Each.{all_then}
use Rattle.list_lemmas.proofs.Members.{all_among}
use Rattle.list_lemmas.proofs.Tests.{by_bool}
use Rattle.law_lines.specs.Mirror.{MirrorsServing}
use Rattle.law_lines.specs.Mirrors.{Holds}
use Rattle.law_lines.specs.Ready.{AsksFit, IsReady, event_after, session_after}
use Rattle.law_lines.specs.Scheduled.{ChoicesHold}
use Rattle.law_lines.proofs.Anywhere.{step_as_due}
use Rattle.law_lines.proofs.Followed.{AreFit}
use Rattle.law_lines.proofs.Openings.{HasNodes}
use Rattle.law_lines.proofs.Scripted.{fits_schedule}
use Rattle.law_lines.proofs.Starting.{start_holds, has_nodes}
use Rattle.law_lines.proofs.Whole.{AllScripted, head_written, next_scripted, small_after}
use Rattle.law_history.proofs.Concluded.{concluded}
use Rattle.law_history.proofs.Steps.{steps_of_all}
use Rattle.law_runs.proofs.Choices.{choices_hold}
use Rattle.law_runs.proofs.Rising.{sessions_rise}
use Rattle.law_shown.proofs.Along.{nodes_show}
use Rattle.law_posts.specs.Spelling.{IsSpellable}
use Rattle.law_posts.proofs.Running.{client_tags}
use Rattle.law_ranged.specs.Ranging.{IsSentWithin}
use Rattle.law_ranged.proofs.Along.{runs_within}
use Rattle.law_claimed.specs.Accounting.{AllAcknowledged, history_of}
use Rattle.law_claimed.specs.Acknowledging.{IsStopped, HearsWithin, ClaimsWithin, EachClaimed, Stops}
use Rattle.law_claimed.proofs.Certified.{each_passes}
use Rattle.law_claimed.proofs.Stopping.{NextStopped, told_stops, away_stops}

-- ---- the batches that aren't acknowledged

-- behind a place in a list stands what is there
drop_at : (list : List Batch) (a : ℕ) → a < length list → (rest : List Batch) × (drop a list ≡ slice_index_or list a [] ∷ rest)
drop_at [] a less = absurd (omega (arith, less))
drop_at (x ∷ list) zero less = (list, refl)
drop_at (x ∷ list) (suc a) less = drop_at list a (omega (arith, less))

none_dropped : (list : List Batch) (a : ℕ) → drop a list ≡ [] → length list ≤ a
none_dropped list a none =
    by_bool (nat_le (length list) a) (length list ≤ a) (λ le. leb-true (length list) a le)
    (λ gt. let at = drop_at list a (leb-false (length list) a gt) in absurd (some_none (slice_index_or list a []) at.0 (sym at.1 ∙ none)))
  where
    some_none : (x : Batch) (xs : List Batch) → x ∷ xs ≡ [] → ⊥
    some_none x xs is = cc

nothing_mapped : {A B : Type 0} (f : A → B) (xs : List A) → map f xs ≡ [] → xs ≡ []
nothing_mapped f [] is = refl
nothing_mapped f (x ∷ xs) is = absurd (cc)

first_mapped : (us : List Unacked) (leader : ℕ) (rest : List ℕ) → map (λ u. u.leader) us ≡ leader ∷ rest → (u : Unacked) × (more : List Unacked) × (us ≡ u ∷ more) × (u.leader ≡ leader)
first_mapped [] leader rest is = absurd (cc)
first_mapped (u ∷ us) leader rest is = (u, us, refl, cc)

module _ (volume : Volume) (events : List Event) (posts : List Posted) (nodes : HasNodes volume.geometry) (many : 0 < volume.geometry.replicas) where
  abbrev shape : Shape
  shape = volume.geometry

  abbrev judge_at : List Past → Judge
  judge_at history = judge_of volume.geometry events history

  abbrev newer : List Past → TraceStep → List Past
  newer history t = past_of volume events posts history t ∷ history

  module _ (history : List Past) (n : ℕ) (c : state.Serving) (m : MirrorsServing volume.geometry history (judge_of volume.geometry events history) n c) where
    empties : c.unacked ≡ [] → c.last ≤ c.acked
    empties none =
        let judge : Judge = judge_at history in
        let leaders : map (λ batch. leader_of shape batch) (drop judge.acked judge.now.list) ≡ [] = sym m.counts.leaders ∙ ap (λ (us : List Unacked). map (λ u. u.leader) us) none in
        let all : length judge.now.list ≤ judge.acked = none_dropped judge.now.list judge.acked (nothing_mapped (λ batch. leader_of shape batch) (drop judge.acked judge.now.list) leaders) in
        let last : c.last ≡ length judge.now.list = m.counts.last in
        let acked : c.acked ≡ judge.acked = m.counts.acked in
        omega (arith, all, last, acked)

    -- where it has heard all claims, none is left
    all_acked : IsStopped shape c → EachClaimed shape events history → last_number (judge_at history) ≤ (judge_at history).acked
    all_acked stopped each =
        let judge : Judge = judge_at history in
        by_bool (nat_le (last_number judge) judge.acked) (last_number judge ≤ judge.acked) (λ le. leb-true (last_number judge) judge.acked le)
        (λ gt.
        let less : judge.acked < length judge.now.list = leb-false (last_number judge) judge.acked gt in
        let at = drop_at judge.now.list judge.acked less in
        let next : ℕ = judge.acked + 1 in
        let first = first_mapped c.unacked (leader_of shape (slice_index_or judge.now.list judge.acked [])) (map (λ batch. leader_of shape batch) at.0)
        (m.counts.leaders ∙ ap (λ (bs : List Batch). map (λ batch. leader_of shape batch) bs) at.1) in
        let acked : c.acked ≡ judge.acked = m.counts.acked in
        let stops : all_claimed shape c.claims first.0.leader (c.acked + 1) ≡ false = subst (λ (us : List Unacked). Stops shape c.claims c.acked us) first.2 stopped.stops in
        let back : next - 1 ≡ judge.acked = omega arith in
        let leader : first.0.leader ≡ leader_of shape (batch_at judge.now next) = first.3 ∙ ap (λ (i : ℕ). leader_of shape (slice_index_or judge.now.list i [])) (sym back) in
        let same : c.acked + 1 ≡ next = omega (arith, acked) in
        let all : all_claimed shape c.claims (leader_of shape (batch_at judge.now next)) next ≡ true =
        each_passes (λ name. nat_le next (claim_of name c.claims)) (group_of shape (leader_of shape (batch_at judge.now next)))
        (all_among (λ (name : NodeName). nat_le next (claim_of name c.claims) ≡ true) (group_of shape (leader_of shape (batch_at judge.now next)))
        (λ name among. m.claims name next (omega arith) ∙ each (serves_is m.serves) next (omega arith) (omega (arith, less)) name among)) in
        absurd (true≢false (sym all ∙ (sym (ap (λ (g : ℕ). all_claimed shape c.claims g next) leader) ∙ (sym (ap (λ (x : ℕ). all_claimed shape c.claims first.0.leader x) same) ∙ stops)))))
      where
        serves_is : phase_of history ≡ Serving → is_serving (phase_of history) ≡ true
        serves_is is = ap is_serving is

  -- ---- along a run

  pub record IsAlong (history : List Past) (n m : ℕ) (c : Client) : Type 0 where
    pub holds : Holds volume history (judge_of volume.geometry events history) n m c
    pub small_now : n ≤ 2 ^ 32
    pub script : AllScripted events (all_taken (since opens history))
    pub stopped : NextStopped volume.geometry c

  module _ (history : List Past) (n m : ℕ) (t : TraceStep) (fits : AsksFit events n m t.event (news_of posts t))
      (choice : IsReady volume events history (judge_of volume.geometry events history) n m t.event (news_of posts t))
      (within : HearsWithin (judge_of volume.geometry events history).now.session (last_number (judge_of volume.geometry events history)) (news_of posts t)) where
    abbrev x : News
    x = news_of posts t

    with_stopped : (c : Client) → IsAlong history n m c → NextStopped volume.geometry (told volume c t.event x).client
        → IsAlong (newer history t) (event_after n t.event x) (session_after m x) (told volume c t.event x).client
    with_stopped c a stopped =
        let row = step_as_due volume events history (judge_at history) n m t nodes c a.holds a.small_now (head_written events history (judge_at history) a.script) x choice in
        record {
          holds = row.holds;
          small_now = small_after events n m t.event x a.small_now fits;
          script = next_scripted events history (past_of volume events posts history t) n m fits a.script;
          stopped = stopped;
        }

    step_along : (c : Client) → IsAlong history n m c → IsAlong (newer history t) (event_after n t.event x) (session_after m x) (told volume c t.event x).client
    step_along (Serves c) a =
        let mirrors = a.holds.mirrors in
        with_stopped (Serves c) a
        (told_stops volume many c a.stopped (empties history n c mirrors) t.event x
        (subst (λ (k : ℕ). HearsWithin c.session k x) (sym mirrors.counts.last) (subst (λ (e : ℕ). HearsWithin e (last_number (judge_at history)) x) (sym mirrors.counts.session) within)))
    step_along Closed a = with_stopped Closed a (away_stops volume Closed tt t.event x)
    step_along (Gathers g) a = with_stopped (Gathers g) a (away_stops volume (Gathers g) tt t.event x)
    step_along (Fetches f) a = with_stopped (Fetches f) a (away_stops volume (Fetches f) tt t.event x)
    step_along (Stages b) a = with_stopped (Stages b) a (away_stops volume (Stages b) tt t.event x)
    step_along (Switches b) a = with_stopped (Switches b) a (away_stops volume (Switches b) tt t.event x)

  -- what holds of all steps held of those before
  claims_before : (steps : List TraceStep) (history : List Past) → ClaimsWithin (history_from volume events posts history steps) → ClaimsWithin history
  unfolding history_from
  claims_before [] history within = within
  claims_before (t ∷ steps) history within = (claims_before steps (newer history t) within).1

  pub record IsEnd (history : List Past) : Type 0 where
    pub n : ℕ
    pub m : ℕ
    pub c : Client
    pub along : IsAlong history n m c

  all_along : (steps : List TraceStep) (history : List Past) (n m : ℕ) (c : Client) → IsAlong history n m c → AreFit events posts n m steps → ChoicesHold volume events posts history steps
      → ClaimsWithin (history_from volume events posts history steps) → IsEnd (history_from volume events posts history steps)
  unfolding AreFit ChoicesHold history_from
  all_along [] history n m c a fit choices within = record { n = n; m = m; c = c; along = a }
  all_along (t ∷ steps) history n m c a fit choices within =
      all_along steps (newer history t) (event_after n t.event (news_of posts t)) (session_after m (news_of posts t)) (told volume c t.event (news_of posts t)).client
      (step_along history n m t fit.0 (record { fits = fit.0; choice = choices.0 }) (claims_before steps (newer history t) within).0 c a) fit.1 choices.1 within

  at_first : IsAlong [] 1 2 (new_client volume.geometry)
  unfolding AllScripted since all_taken
  at_first = record { holds = start_holds volume; small_now = omega arith; script = tt; stopped = record { stops = tt; below = tt } }

  ended : (history : List Past) → EachClaimed volume.geometry events history → (c : Client) (n m : ℕ) → IsAlong history n m c → AllAcknowledged volume.geometry events history
  ended history each (Serves c) n m a serving = all_acked history n c a.holds.mirrors a.stopped each
  ended history each Closed n m a serving = absurd (true≢false (sym serving ∙ ap is_serving a.holds.mirrors))
  ended history each (Gathers g) n m a serving = absurd (true≢false (sym serving ∙ ap is_serving a.holds.mirrors.phase))
  ended history each (Fetches f) n m a serving = absurd (true≢false (sym serving ∙ ap is_serving a.holds.mirrors.phase))
  ended history each (Stages b) n m a serving = absurd (true≢false (sym serving ∙ ap is_serving a.holds.mirrors.phase))
  ended history each (Switches b) n m a serving = absurd (true≢false (sym serving ∙ ap is_serving a.holds.mirrors.phase))

  pub fit_acknowledged : (trace : List TraceStep) → AreFit events posts 1 2 trace → ChoicesHold volume events posts [] trace
      → ClaimsWithin (history_of volume events posts trace) → EachClaimed volume.geometry events (history_of volume events posts trace)
      → AllAcknowledged volume.geometry events (history_of volume events posts trace)
  fit_acknowledged trace fit choices within each =
      let end = all_along trace [] 1 2 (new_client volume.geometry) at_first fit choices within in
      ended (history_of volume events posts trace) each end.c end.n end.m end.along

-- The law.
pub batches_acknowledged : (volume : Volume) (events : List Event) (posts : List Posted) (trace : List TraceStep) → IsWithinLimits (record { volume = volume; events = events })
    → Follows events posts trace → NoCollision volume events posts trace → NoForgery volume events posts trace → IsByRules volume (formatted_first volume) posts trace
    → ClaimsWithin (history_of volume events posts trace) → EachClaimed volume.geometry events (history_of volume events posts trace)
    → AllAcknowledged volume.geometry events (history_of volume events posts trace)
batches_acknowledged volume events posts trace limits follows none unforged by within each =
    let kept = runs_within volume events posts trace limits follows by in
    let tags =
    client_tags volume events posts trace limits follows (all_then (IsSentWithin volume.geometry) (λ l. IsSpellable l.message) (λ l sent. (sent.counts, sent.widths)) _ kept.2) by.client in
    let shows = nodes_show volume events posts trace limits.volume follows kept.1 kept.0 by.nodes in
    let right = concluded volume events posts trace limits.rising follows (steps_of_all volume events posts trace none) unforged shows tags in
    let few = limits.few in
    let fit = fits_schedule events posts trace (omega (arith, few)) (sessions_rise events 1 2 (omega arith) limits.rising) follows in
    fit_acknowledged volume events posts (has_nodes volume.geometry limits.volume.small_groups.0) limits.volume.small_groups.0 trace fit (choices_hold volume events posts trace [] right.1) within each
