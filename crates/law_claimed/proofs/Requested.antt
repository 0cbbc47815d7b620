-- The law of requests: in a run without faults in which no question is left and every batch is acknowledged at the end, every
-- request accepted since the client's last crash is done.
use Rattle.std.proofs.Common.{◌≡◌, ◌∙◌, ⊎_elim, ℕ, ◌^◌, ◌≤◌, ◌||◌, Bool, true, false, List, [], ◌∷◌, None, sym, ap, subst, arith}
use Rattle.std.specs.List.{list_any, AllByRecursion}
use Rattle.std.proofs.lemmas.Bool.{true≢false}
use Rattle.salus_types.specs.Volume.{Shape}
use Rattle.schedule_text.specs.Limits.{IsWithinLimits, IsEventWithin}
use Rattle.schedule_text.specs.declared.schedule.Volume.{Volume}
use Rattle.schedule_text.specs.declared.schedule.Event.{Event}
use Rattle.printed_lines.specs.declared.line.Line.{Line}
use Rattle.salus_model.specs.declared.trace.TraceStep.{TraceStep}
use Rattle.salus_model.specs.Judge.{Judge}
use Rattle.salus_model.specs.Following.{Posted, Follows}
use Rattle.salus_model.specs.Forgery.{NoForgery}
use Rattle.salus_model.specs.Seen.{NoCollision}
use Rattle.salus_model.specs.Hearing.{News, Past, news_of, judge_of, since, opens, is_refused_line, is_serving}
use Rattle.salus_model.specs.Waiting.{Taken, all_taken, live}
use Rattle.salus_model.specs.Due.{past_of, history_from}
use Rattle.salus_model.specs.Complete.{accepted, is_done}
use Rattle.client_rules.specs.State as state
use Rattle.client_rules.specs.State.{Client, Closed, Serves, Gathers, Fetches, Stages, Switches}
use Rattle.client_rules.specs.Serving.{refusal_here}
use Rattle.client_rules.specs.Rules.{new_client, told}
use Rattle.run_rules.specs.Run.{IsByRules, formatted_first}
use Rattle.list_lemmas.proofs.Each.{all_then}
use Rattle.list_lemmas.proofs.Members.{all_among}
use Rattle.list_lemmas.proofs.Tests.{by_bool, or_true}
use Rattle.law_lines.specs.Mirrors.{Holds, AsDue}
use Rattle.law_lines.specs.Ready.{AsksFit, IsReady, event_after, session_after}
use Rattle.law_lines.specs.Scheduled.{ChoicesHold}
use Rattle.law_lines.proofs.Anywhere.{step_as_due}
use Rattle.law_lines.proofs.Followed.{AreFit}
use Rattle.law_lines.proofs.Openings.{HasNodes}
use Rattle.law_lines.proofs.Ordered.{head-writes}
use Rattle.law_lines.proofs.Scripted.{fits_schedule}
use Rattle.law_lines.proofs.Starting.{start_holds, has_nodes}
use Rattle.law_lines.proofs.Whole.{AllScripted, head_written, next_scripted, small_after}
use Rattle.law_history.proofs.Concluded.{concluded}
use Rattle.law_history.proofs.Steps.{steps_of_all}
use Rattle.law_runs.proofs.Choices.{choices_hold}
use Rattle.law_runs.proofs.Rising.{sessions_rise}
use Rattle.law_shown.proofs.Along.{nodes_show}
use Rattle.law_posts.specs.Spelling.{IsSpellable}
use Rattle.law_posts.proofs.Running.{client_tags}
use Rattle.law_ranged.specs.Ranging.{IsSentWithin}
use Rattle.law_ranged.proofs.Along.{runs_within}
use Rattle.law_reads.proofs.Away.{IsAway}
use Rattle.law_reads.proofs.Mirrored.{own_numbers}
use Rattle.law_claimed.specs.Accounting.{has_fault, BlocksCome, AllAcknowledged, AllDone, history_of}
use Rattle.law_claimed.proofs.Accounted.{IsHeldBy, IsAccounted, taken_was, serving_takes, serving_accounted, none_taken, away_accounted}
use Rattle.law_claimed.proofs.Begun.{KnowsNext}
use Rattle.law_claimed.proofs.Blocks.{HasBlocks, AllHaveBlocks, request_has, next_blocks}
use Rattle.law_claimed.proofs.Ended.{kept_done}

module _ (volume : Volume) (events : List Event) (posts : List Posted) (nodes : HasNodes volume.geometry) (inside : AllByRecursion (IsEventWithin volume.geometry) events) where
  abbrev shape : Shape
  shape = volume.geometry

  abbrev judge_at : List Past → Judge
  judge_at history = judge_of volume.geometry events history

  -- the history after a step
  abbrev newer : List Past → TraceStep → List Past
  newer history t = past_of volume events posts history t ∷ history

  pub record IsAlong (history : List Past) (n m : ℕ) (c : Client) : Type 0 where
    pub holds : Holds volume history (judge_of volume.geometry events history) n m c
    pub small_now : n ≤ 2 ^ 32
    pub script : AllScripted events (all_taken (since opens history))
    pub blocks_all : AllHaveBlocks volume.geometry (all_taken (since opens history))
    pub accounted : IsAccounted volume events posts history c

  module _ (history : List Past) (n m : ℕ) (t : TraceStep) (fits : AsksFit events n m t.event (news_of posts t))
      (choice : IsReady volume events history (judge_of volume.geometry events history) n m t.event (news_of posts t)) where
    abbrev x : News
    x = news_of posts t

    abbrev Next : Client → Type 0
    Next c = IsAlong (newer history t) (event_after n t.event x) (session_after m x) (told volume c t.event x).client

    row : (c : Client) → IsAlong history n m c
        → AsDue volume (newer history t) (judge_at (newer history t)) (event_after n t.event x) (session_after m x) (past_of volume events posts history t).lines (told volume c t.event x)
    row c a = step_as_due volume events history (judge_at history) n m t nodes c a.holds a.small_now (head_written events history (judge_at history) a.script) x choice

    serving_next : (c : state.Serving) → IsAlong history n m (Serves c) → has_fault (past_of volume events posts history t).lines ≡ false → Next (Serves c)
    serving_next c a faultless =
        let m_now = a.holds.mirrors in
        let r = row (Serves c) a in
        record {
          holds = r.holds;
          small_now = small_after events n m t.event x a.small_now fits;
          script = next_scripted events history (past_of volume events posts history t) n m fits a.script;
          blocks_all = next_blocks shape (past_of volume events posts history t) history
              (λ q among.
              let taken = taken_was (past_of volume events posts history t) q among in
              let asked = taken.1 in
              let none : refusal_here shape c asked.q ≡ None =
              serving_takes volume c t.event asked.q asked.joins_it
              (subst (λ (y : News). list_any is_refused_line (told volume (Serves c) t.event y).lines ≡ false) asked.news (ap (λ (ls : List Line). list_any is_refused_line ls) r.same ∙ taken.0)) in
              subst (λ (y : Taken). HasBlocks shape y.request) (sym asked.is)
              (request_has shape events c t.event asked.q inside (subst (λ (y : News). AsksFit events n m t.event y) asked.news fits).3 none))
              a.blocks_all;
          accounted = serving_accounted volume events posts history t c a.accounted m_now.counts.acked (own_numbers shape history (judge_at history) n c m_now)
              (λ w behind is. head-writes (live history (judge_at history)) w behind (sym m_now.table.line ∙ is)) r.same faultless;
        }

    away_next : (c : Client) → IsAway c → KnowsNext (judge_at history) c → IsAlong history n m c → Next c
    away_next c away knows a =
        let r = row c a in
        record {
          holds = r.holds;
          small_now = small_after events n m t.event x a.small_now fits;
          script = next_scripted events history (past_of volume events posts history t) n m fits a.script;
          blocks_all = next_blocks shape (past_of volume events posts history t) history
              (λ q among. absurd (none_taken volume events posts history t c away a.accounted knows r.same q among)) a.blocks_all;
          accounted = away_accounted volume events posts history t c away a.accounted knows r.same;
        }

    step_along : (c : Client) → IsAlong history n m c → has_fault (past_of volume events posts history t).lines ≡ false → Next c
    step_along (Serves c) a faultless = serving_next c a faultless
    step_along Closed a faultless = away_next Closed tt tt a
    step_along (Gathers g) a faultless = away_next (Gathers g) tt tt a
    step_along (Fetches f) a faultless = away_next (Fetches f) tt tt a
    step_along (Stages b) a faultless = away_next (Stages b) tt tt a
    step_along (Switches b) a faultless = away_next (Switches b) tt (a.holds.mirrors.begun.known, a.holds.mirrors.begun.at) a

  -- ---- a run

  -- no line of these steps is a fault, nor was one before
  abbrev pub is_faulty : Past → Bool
  is_faulty p = has_fault p.lines

  faults_stay : (steps : List TraceStep) (history : List Past) → list_any is_faulty history ≡ true → list_any is_faulty (history_from volume events posts history steps) ≡ true
  unfolding history_from
  faults_stay [] history is = is
  faults_stay (t ∷ steps) history is =
      faults_stay steps (newer history t) (ap (λ (w : Bool). is_faulty (past_of volume events posts history t) || w) is ∙ or_true (is_faulty (past_of volume events posts history t)))

  fault_now : (steps : List TraceStep) (t : TraceStep) (history : List Past) → list_any is_faulty (history_from volume events posts (newer history t) steps) ≡ false
      → has_fault (past_of volume events posts history t).lines ≡ false
  fault_now steps t history none =
      by_bool (is_faulty (past_of volume events posts history t)) (is_faulty (past_of volume events posts history t) ≡ false)
      (λ is. absurd (true≢false (sym (faults_stay steps (newer history t) (ap (λ (w : Bool). w || list_any is_faulty history) is)) ∙ none))) (λ isnt. isnt)

  pub record IsEnd (history : List Past) : Type 0 where
    pub n : ℕ
    pub m : ℕ
    pub c : Client
    pub along : IsAlong history n m c

  all_along : (steps : List TraceStep) (history : List Past) (n m : ℕ) (c : Client) → IsAlong history n m c → AreFit events posts n m steps → ChoicesHold volume events posts history steps
      → list_any is_faulty (history_from volume events posts history steps) ≡ false → IsEnd (history_from volume events posts history steps)
  unfolding AreFit ChoicesHold history_from
  all_along [] history n m c a fit choices none = record { n = n; m = m; c = c; along = a }
  all_along (t ∷ steps) history n m c a fit choices none =
      all_along steps (newer history t) (event_after n t.event (news_of posts t)) (session_after m (news_of posts t)) (told volume c t.event (news_of posts t)).client
      (step_along history n m t fit.0 (record { fits = fit.0; choice = choices.0 }) c a (fault_now steps t history none)) fit.1 choices.1 none

  at_first : IsAlong [] 1 2 (new_client volume.geometry)
  unfolding AllScripted since all_taken
  at_first = record {
    holds = start_holds volume;
    small_now = omega arith;
    script = tt;
    blocks_all = tt;
    accounted = record { requests = λ r among. absurd among; within = tt };
  }

  -- ---- the end

  module _ (history : List Past) (come : BlocksCome volume.geometry events history) (acknowledged : AllAcknowledged volume.geometry events history) where
    done_by : (c : Client) (n m : ℕ) → IsAlong history n m c → (r : Taken) → IsHeldBy c (judge_at history).submits r → is_done shape events history r.event r.request ≡ true
    done_by (Serves c) n m a r held =
        kept_done shape events history n c a.holds.mirrors come a.blocks_all a.accounted.within (acknowledged (ap is_serving a.holds.mirrors.serves)) r held
    done_by Closed n m a r held = absurd held
    done_by (Gathers g) n m a r held = absurd held
    done_by (Fetches f) n m a r held = absurd held
    done_by (Stages b) n m a r held = absurd held
    done_by (Switches b) n m a r held = absurd held

    all_done : IsEnd history → AllDone volume.geometry events history
    all_done end =
        all_among (λ r. is_done shape events history r.event r.request ≡ true) (accepted history)
        (λ r among. ⊎_elim (λ (done : is_done shape events history r.event r.request ≡ true). done) (λ (held : IsHeldBy end.c (judge_at history).submits r). done_by end.c end.n end.m end.along r held) (end.along.accounted.requests r among).1)

  pub fit_done : (trace : List TraceStep) → AreFit events posts 1 2 trace → ChoicesHold volume events posts [] trace
      → BlocksCome volume.geometry events (history_of volume events posts trace) → AllAcknowledged volume.geometry events (history_of volume events posts trace)
      → AllDone volume.geometry events (history_of volume events posts trace)
  fit_done trace fit choices come acknowledged = all_done (history_of volume events posts trace) come acknowledged (all_along trace [] 1 2 (new_client volume.geometry) at_first fit choices come.faultless)

-- The law.
pub requests_done : (volume : Volume) (events : List Event) (posts : List Posted) (trace : List TraceStep) → IsWithinLimits (record { volume = volume; events = events })
    → Follows events posts trace → NoCollision volume events posts trace → NoForgery volume events posts trace → IsByRules volume (formatted_first volume) posts trace
    → BlocksCome volume.geometry events (history_of volume events posts trace) → AllAcknowledged volume.geometry events (history_of volume events posts trace)
    → AllDone volume.geometry events (history_of volume events posts trace)
requests_done volume events posts trace limits follows none unforged by come acknowledged =
    let kept = runs_within volume events posts trace limits follows by in
    let tags =
    client_tags volume events posts trace limits follows (all_then (IsSentWithin volume.geometry) (λ l. IsSpellable l.message) (λ l sent. (sent.counts, sent.widths)) _ kept.2) by.client in
    let shows = nodes_show volume events posts trace limits.volume follows kept.1 kept.0 by.nodes in
    let right = concluded volume events posts trace limits.rising follows (steps_of_all volume events posts trace none) unforged shows tags in
    let few = limits.few in
    let fit = fits_schedule events posts trace (omega (arith, few)) (sessions_rise events 1 2 (omega arith) limits.rising) follows in
    fit_done volume events posts (has_nodes volume.geometry limits.volume.small_groups.0) limits.events trace fit (choices_hold volume events posts trace [] right.1) come acknowledged
