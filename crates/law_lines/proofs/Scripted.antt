-- The law of lines for a trace that follows its schedule.
use Rattle.std.proofs.Common.{◌≡◌, ℕ, ◌+◌, ◌-◌, ◌^◌, ◌<◌, ◌≤◌, Bool, true, false, ◌∙◌, nat_lt, List, [], ◌∷◌, ◌++◌, length, Some, refl, ap₂, sym, subst, arith, append_assoc, length-append, lt-ltb}
use Rattle.std.specs.Prelude.{reverse}
use Rattle.schedule_text.specs.declared.schedule.Volume.{Volume}
use Rattle.schedule_text.specs.declared.schedule.Event.{Event}
use Rattle.schedule_text.specs.declared.schedule.Event.TheVariants as event
use Rattle.salus_types.specs.declared.names.Sender.TheVariants as sender
use Rattle.salus_model.specs.declared.trace.Request.TheVariants as request
use Rattle.salus_model.specs.declared.trace.Handed.TheVariants as handed
use Rattle.salus_model.specs.declared.trace.TraceStep.{TraceStep}
use Rattle.salus_model.specs.Judge.{event_at}
use Rattle.salus_model.specs.Following.{Posted, is_skipped, dropped_after, sent_by, AreStepsOf, IsEventDone, FollowsFrom, Follows}
use Rattle.salus_model.specs.Due.{lines_due, past_of}
use Rattle.salus_model.specs.Hearing.{Past, news_of}
use Rattle.list_lemmas.proofs.Lists.{get_after}
use Rattle.law_lines.specs.Ready.{AreReady, event_after, session_after}
use Rattle.law_lines.specs.Scheduled.{SessionsRise, ChoicesHold}
use Rattle.law_lines.specs.Running.{run_lines}
use Rattle.law_lines.proofs.Starting.{lines_are_due}
use Rattle.law_lines.proofs.Followed.{ready_quiet, one_quiet, settle_quiet, none_quiet, one_asks, AreFit}

event_here : (before rest : List Event) (e : Event) → event_at (before ++ e ∷ rest) (length before + 1) ≡ Some e
event_here before rest e =
    let positive : nat_lt 0 (length before + 1) ≡ true = lt-ltb 0 (length before + 1) (omega arith) in
    let place : length before + 1 - 1 ≡ length before = omega arith in
    rw (positive, place) (get_after before rest e)

module _ (events : List Event) (posts : List Posted) where
  abbrev After : ℕ → List Event → List TraceStep → Type 0
  After k es rest = (n m : ℕ) → n ≤ k + 1 → SessionsRise m es → AreFit events posts n m rest

  event_ready : (e : Event) (es : List Event) (earlier : List TraceStep) (dropped : List ℕ) (k n m : ℕ) (here rest : List TraceStep) → n ≤ k → k < 2 ^ 32 → event_at events k ≡ Some e
      → SessionsRise m (e ∷ es) → AreStepsOf posts earlier dropped k e here → After k es rest → AreFit events posts n m (here ++ rest)
  unfolding SessionsRise
  event_ready (event.Write batch) es earlier dropped k n m here rest up small at rise done after =
      one_asks events posts earlier k (request.Write batch) here rest n m done (up, small, tt, at) (after (k + 1) m (omega arith) rise)
  event_ready (event.Read b) es earlier dropped k n m here rest up small at rise done after =
      one_asks events posts earlier k (request.Read b) here rest n m done (up, small, tt, tt) (after (k + 1) m (omega arith) rise)
  event_ready event.Barrier es earlier dropped k n m here rest up small at rise done after =
      one_asks events posts earlier k request.Barrier here rest n m done (up, small, tt, tt) (after (k + 1) m (omega arith) rise)
  event_ready (event.Restart s) es earlier dropped k n m here rest up small at rise done after =
      one_asks events posts earlier k (request.Restart s) here rest n m done (up, small, rise.0, tt) (after (k + 1) (s + 1) (omega arith) rise.1)
  event_ready (event.Reassign s g) es earlier dropped k n m here rest up small at rise done after =
      one_asks events posts earlier k (request.Reassign s g) here rest n m done (up, small, rise.0, tt) (after (k + 1) (s + 1) (omega arith) rise.1)
  event_ready (event.Deliver i) es earlier dropped k n m here rest up small at rise done after =
      ready_quiet events posts here rest n m (one_quiet events posts earlier k done.message.to (handed.Deliver i) here tt done.one) (after n m (omega (arith, up)) rise)
  event_ready (event.Stop i calls keep fill) es earlier dropped k n m here rest up small at rise done after =
      ready_quiet events posts here rest n m (one_quiet events posts earlier k done.message.to (handed.Stop i) here tt done.one) (after n m (omega (arith, up)) rise)
  event_ready (event.Settle count) es earlier dropped k n m here rest up small at rise done after =
      ready_quiet events posts here rest n m (settle_quiet events posts here dropped k count earlier done) (after n m (omega (arith, up)) rise)
  event_ready (event.Drop i) es earlier dropped k n m here rest up small at rise done after =
      ready_quiet events posts here rest n m (none_quiet events posts here done) (after n m (omega (arith, up)) rise)
  event_ready (event.Fail node call) es earlier dropped k n m here rest up small at rise done after =
      ready_quiet events posts here rest n m (none_quiet events posts here done) (after n m (omega (arith, up)) rise)
  event_ready (event.Lie from to bytes) es earlier dropped k n m here rest up small at rise done after =
      ready_quiet events posts here rest n m (one_quiet events posts earlier k to (handed.Lie from bytes) here tt done) (after n m (omega (arith, up)) rise)
  event_ready (event.Crash node keep fill) es earlier dropped k n m here rest up small at rise done after =
      ready_quiet events posts here rest n m (one_quiet events posts earlier k (sender.Node node) handed.Crash here tt done) (after n m (omega (arith, up)) rise)
  event_ready (event.Replace node) es earlier dropped k n m here rest up small at rise done after =
      ready_quiet events posts here rest n m (one_quiet events posts earlier k (sender.Node node) handed.Replace here tt done) (after n m (omega (arith, up)) rise)
  event_ready event.ClientCrash es earlier dropped k n m here rest up small at rise done after =
      ready_quiet events posts here rest n m (one_quiet events posts earlier k sender.Client handed.ClientCrash here tt done) (after n m (omega (arith, up)) rise)
  event_ready (event.Tick party) es earlier dropped k n m here rest up small at rise done after =
      ready_quiet events posts here rest n m (one_quiet events posts earlier k party handed.Tick here tt done) (after n m (omega (arith, up)) rise)

  skipped_rise : (e : Event) (es : List Event) (sent m : ℕ) → is_skipped posts sent e ≡ true → SessionsRise m (e ∷ es) → SessionsRise m es
  unfolding SessionsRise
  skipped_rise (event.Deliver i) es sent m skips rise = rise
  skipped_rise (event.Drop i) es sent m skips rise = rise
  skipped_rise (event.Stop i calls keep fill) es sent m skips rise = rise
  skipped_rise (event.Write batch) es sent m skips rise = rise
  skipped_rise (event.Read b) es sent m skips rise = rise
  skipped_rise event.Barrier es sent m skips rise = rise
  skipped_rise (event.Settle count) es sent m skips rise = rise
  skipped_rise (event.Lie from to bytes) es sent m skips rise = rise
  skipped_rise (event.Crash node keep fill) es sent m skips rise = rise
  skipped_rise (event.Fail node call) es sent m skips rise = rise
  skipped_rise (event.Replace node) es sent m skips rise = rise
  skipped_rise event.ClientCrash es sent m skips rise = rise
  skipped_rise (event.Restart s) es sent m skips rise = absurd (cc)
  skipped_rise (event.Reassign s g) es sent m skips rise = absurd (cc)
  skipped_rise (event.Tick party) es sent m skips rise = rise

  done_ready : (t : Bool) (e : Event) (es : List Event) (earlier : List TraceStep) (dropped : List ℕ) (k n m : ℕ) (here rest : List TraceStep) → is_skipped posts (sent_by earlier) e ≡ t
      → n ≤ k → k < 2 ^ 32 → event_at events k ≡ Some e → SessionsRise m (e ∷ es) → IsEventDone t posts earlier dropped k e here → After k es rest
      → AreFit events posts n m (here ++ rest)
  done_ready true e es earlier dropped k n m here rest skips up small at rise done after =
      ready_quiet events posts here rest n m (none_quiet events posts here done) (after n m (omega (arith, up)) (skipped_rise e es (sent_by earlier) m skips rise))
  done_ready false e es earlier dropped k n m here rest skips up small at rise done after = event_ready e es earlier dropped k n m here rest up small at rise done after

  no_steps : (n m : ℕ) → AreFit events posts n m []
  unfolding AreFit
  no_steps n m = tt

  events_ready : (es before : List Event) (earlier : List TraceStep) (dropped : List ℕ) (k : ℕ) (steps : List TraceStep) → events ≡ before ++ es → k ≡ length before + 1 → length before + length es < 2 ^ 32
      → FollowsFrom posts earlier dropped k es steps → (n m : ℕ) → n ≤ k → SessionsRise m es → AreFit events posts n m steps
  unfolding FollowsFrom
  events_ready [] before earlier dropped k steps whole number small follows n m up rise = subst (AreFit events posts n m) (sym follows.0) (no_steps n m)
  events_ready (e ∷ es) before earlier dropped k steps whole number small follows n m up rise =
      let at : event_at events k ≡ Some e = ap₂ event_at whole number ∙ event_here before es e in
      let next : events ≡ (before ++ e ∷ []) ++ es = whole ∙ sym (append_assoc before (e ∷ []) es) in
      let longer : length (before ++ e ∷ []) ≡ length before + 1 = length-append before (e ∷ []) in
      subst (AreFit events posts n m) (sym follows.2)
      (done_ready (is_skipped posts (sent_by earlier) e) e es earlier dropped k n m follows.0 follows.1 refl up (omega (arith, number, small)) at rise follows.3
      (λ n2 m2 up2 rise2. events_ready es (before ++ e ∷ []) (reverse follows.0 ++ earlier) (dropped_after (sent_by earlier) dropped e) (k + 1) follows.1 next
      (omega (arith, number, longer)) (omega (arith, longer, small)) follows.4 n2 m2 up2 rise2))

pub fits_schedule : (events : List Event) (posts : List Posted) (trace : List TraceStep) → length events < 2 ^ 32 → SessionsRise 2 events
    → Follows events posts trace → AreFit events posts 1 2 trace
fits_schedule events posts trace small rise follows =
    events_ready events posts events [] [] [] 1 trace refl refl (omega (arith, small)) follows 1 2 (omega arith) rise

-- with what each restart chooses
ready : (volume : Volume) (events : List Event) (posts : List Posted) (steps : List TraceStep) (history : List Past) (n m : ℕ) → AreFit events posts n m steps
    → ChoicesHold volume events posts history steps → AreReady volume events posts history n m steps
unfolding AreFit ChoicesHold AreReady
ready volume events posts [] history n m fit choices = tt
ready volume events posts (step ∷ steps) history n m fit choices = (
  record { fits = fit.0; choice = choices.0 },
  ready volume events posts steps (past_of volume events posts history step ∷ history) (event_after n step.event (news_of posts step)) (session_after m (news_of posts step)) fit.1 choices.1,
)

-- THE LAW OF LINES for a trace that follows its schedule: the premises are those of the schedule's text, the volume's
-- shape, and that restarts choose front parts of known sessions.
pub lines_follow : (volume : Volume) (events : List Event) (posts : List Posted) (trace : List TraceStep) → 1 ≤ volume.geometry.replicas → length events < 2 ^ 32 → SessionsRise 2 events
    → Follows events posts trace → ChoicesHold volume events posts [] trace → run_lines volume events posts trace ≡ lines_due volume events posts trace
lines_follow volume events posts trace many small rise follows choices =
    lines_are_due volume events posts trace many
    (ready volume events posts trace [] 1 2 (fits_schedule events posts trace small rise follows) choices)
