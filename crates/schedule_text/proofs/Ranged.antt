-- The lines after the first are read as their events, up to the first that is wrong.
use Rattle.std.proofs.Common.{◌≡◌, ◌⊎◌, ℕ, ◌+◌, ◌≤◌, ltb, List, [], ◌∷◌, ◌++◌, length, refl, sym, ap, subst, ◌∙◌, arith, inl, inr}
use Rattle.std.specs.Prelude.{Option, None, Some, option_to_list, Result, Ok, Err}
use Rattle.std.specs.Option.{unwrap_or}
use Rattle.std.specs.List.{AllZip}
use Rattle.std.proofs.lemmas.Bool.{ltb-true, ltb-false, le-ltb}
use Rattle.salus_types.specs.Volume.{Shape}
use Rattle.text_words.proofs.Settled.{chosen, pick_false}
use Rattle.text_words.proofs.Worded.{words-sound, words_front}
use Rattle.text_words.specs.Grammar.{IsWords}
use Rattle.schedule_text.specs.declared.error.Cause.{Cause}
use Rattle.schedule_text.specs.declared.error.Cause.TheVariants as cause
use Rattle.schedule_text.specs.declared.error.ScheduleError.{ScheduleError}
use Rattle.schedule_text.specs.declared.schedule.Event.{Event}
use Rattle.schedule_text.specs.Reading.{after, at_line, numbered_event, latest_after, after_events, events_from}
use Rattle.schedule_text.specs.Grammar.{IsEventLine, session_of, sessions_of, RisesFrom, latest_session, IsWrongEvent}
use Rattle.schedule_text.proofs.Decided.{ok-err, same_ok, same_err}
use Rattle.schedule_text.proofs.Lined.{IsNext, next-sound, next-only, next-wrong}

-- ---- one line

at-ok : {X : Type 0} (number : ℕ) (r : Result X Cause) (x : X) → at_line number r ≡ Ok x → r ≡ Ok x
at-ok number (Ok y) x h = ap Ok (same_ok {E = ScheduleError} y x h)
at-ok number (Err c) x h = absurd (ok-err x (record { line = number; cause = c }) (sym h))

at-err : {X : Type 0} (number : ℕ) (r : Result X Cause) (wrong : ScheduleError) → at_line number r ≡ Err wrong → (r ≡ Err wrong.cause) × (wrong.line ≡ number)
at-err number (Ok y) wrong h = absurd (ok-err y wrong h)
at-err {X = X} number (Err c) wrong h =
    let is = same_err {X = X} (record { line = number; cause = c }) wrong h in
    (ap (λ (w : ScheduleError). Err w.cause) is, sym (ap (λ (w : ScheduleError). w.line) is))

numbered-sound : (shape : Shape) (latest number : ℕ) (line : List ℕ) (e : Event) → numbered_event shape latest number line ≡ Ok e
    → IsEventLine shape line e × IsNext latest (session_of e) × (number ≤ 65537)
numbered-sound shape latest number line e h = elim (chosen (ltb 65537 number) _ _ _ (at-ok number _ e h)) [
  | inl w ↦ absurd (ok-err e cause.Long (sym w.1))
  | inr w ↦ let p = next-sound shape latest line e w.1 in (p.0, p.1, ltb-false 65537 number w.0)
]

pub numbered-only : (shape : Shape) (latest number : ℕ) (line : List ℕ) (e : Event) → IsEventLine shape line e → IsNext latest (session_of e) → number ≤ 65537
    → numbered_event shape latest number line ≡ Ok e
numbered-only shape latest number line e w above few =
    ap (at_line number) (pick_false (ltb 65537 number) _ _ (le-ltb 65537 number few) ∙ next-only shape latest line e w above)

-- a line that is wrong behind so many events
numbered-wrong : (shape : Shape) (latest number before : ℕ) (line : List ℕ) (wrong : ScheduleError) → number ≡ before + 2 → before ≤ 65536
    → numbered_event shape latest number line ≡ Err wrong → IsWrongEvent shape before latest line wrong.cause × (wrong.line ≡ number)
numbered-wrong shape latest number before line wrong is few h =
    let p = at-err number _ wrong h in (
      elim (chosen (ltb 65537 number) _ _ _ p.0) [
        | inl w ↦
            let many = ltb-true 65537 number w.0 in
            let s = words_front line in
            record {
              name = _;
              words = s.0;
              are_words = subst (IsWords line) s.1 (words-sound line);
              wrong = inl (omega (arith, many, is, few), sym (same_err {X = Event} _ _ w.1));
            }
        | inr w ↦
            let within = ltb-false 65537 number w.0 in
            let q = next-wrong shape latest line wrong.cause w.1 in
            record { name = q.0; words = q.1; are_words = q.2; wrong = inr (omega (arith, within, is), q.3) }
      ],
      p.1,
    )

-- ---- sessions that rise

rises-more : (latest : ℕ) (o : Option ℕ) (sessions : List ℕ) → IsNext latest o → RisesFrom (unwrap_or o latest) sessions → RisesFrom latest (option_to_list o ++ sessions)
rises-more latest None sessions next rest = rest
rises-more latest (Some session) sessions next rest = (next, rest)

pub rises-parts : (latest : ℕ) (o : Option ℕ) (sessions : List ℕ) → RisesFrom latest (option_to_list o ++ sessions) → IsNext latest o × RisesFrom (unwrap_or o latest) sessions
rises-parts latest None sessions w = (tt, w)
rises-parts latest (Some session) sessions w = (w.0, w.1)

pub latest-more : (latest : ℕ) (o : Option ℕ) (sessions : List ℕ) → latest_session (unwrap_or o latest) sessions ≡ latest_session latest (option_to_list o ++ sessions)
latest-more latest None sessions = refl
latest-more latest (Some session) sessions = refl

-- ---- every line is an event

event-ok : (r : Result Event ScheduleError) (next : Event → Result (List Event) ScheduleError) (events : List Event) → after r (λ e. after_events (e ∷ []) (next e)) ≡ Ok events
    → (e : Event) × (more : List Event) × (r ≡ Ok e) × (next e ≡ Ok more) × (e ∷ more ≡ events)
event-ok (Err wrong) next events h = absurd (ok-err events wrong (sym h))
event-ok (Ok e) next events h = rest-ok e (next e) events refl h
  where
    rest-ok : (f : Event) (r : Result (List Event) ScheduleError) (all : List Event) → next f ≡ r → after_events (f ∷ []) r ≡ Ok all
        → (g : Event) × (more : List Event) × (◌≡◌ {A = Result Event ScheduleError} (Ok f) (Ok g)) × (next g ≡ Ok more) × (g ∷ more ≡ all)
    rest-ok f (Ok more) all is found = (f, more, refl, is, same_ok {E = ScheduleError} _ _ found)
    rest-ok f (Err wrong) all is found = absurd (ok-err all wrong (sym found))

event-err : (r : Result Event ScheduleError) (next : Event → Result (List Event) ScheduleError) (wrong : ScheduleError) → after r (λ e. after_events (e ∷ []) (next e)) ≡ Err wrong
    → (r ≡ Err wrong) ⊎ ((e : Event) × (r ≡ Ok e) × (next e ≡ Err wrong))
event-err (Err w) next wrong h = inl (ap Err (same_err {X = List Event} w wrong h))
event-err (Ok e) next wrong h = inr (e, refl, rest-err e (next e) wrong refl h)
  where
    rest-err : (f : Event) (r : Result (List Event) ScheduleError) (w : ScheduleError) → next f ≡ r → after_events (f ∷ []) r ≡ Err w → next f ≡ Err w
    rest-err f (Ok more) w is found = absurd (ok-err (f ∷ more) w found)
    rest-err f (Err v) w is found = is ∙ ap Err (same_err {X = List Event} v w found)

heads : (e f : Event) (events others : List Event) → e ∷ events ≡ f ∷ others → (e ≡ f) × (events ≡ others)
heads e f events others h = (cc, cc)

pub events-sound : (shape : Shape) (latest number : ℕ) (lines : List (List ℕ)) (events : List Event) → number ≤ 65538 → events_from shape latest number lines ≡ Ok events
    → AllZip (IsEventLine shape) lines events × (number + length events ≤ 65538) × RisesFrom latest (sessions_of events)
unfolding events_from
events-sound shape latest number [] [] small h = (tt, omega arith, tt)
events-sound shape latest number [] (e ∷ events) small h = absurd (let nil : [] ≡ e ∷ events = same_ok {E = ScheduleError} _ _ h in cc)
events-sound shape latest number (line ∷ lines) [] small h =
    let p = event-ok (numbered_event shape latest number line) (λ e. events_from shape (latest_after latest e) (number + 1) lines) [] h in
    absurd (let nil : p.0 ∷ p.1 ≡ [] = p.4 in cc)
events-sound shape latest number (line ∷ lines) (e ∷ events) small h =
    let p = event-ok (numbered_event shape latest number line) (λ f. events_from shape (latest_after latest f) (number + 1) lines) (e ∷ events) h in
    let is = heads p.0 e p.1 events p.4 in
    let one = numbered-sound shape latest number line e (p.2 ∙ ap Ok is.0) in
    let within = one.2 in
    let more = subst (λ f. events_from shape (latest_after latest f) (number + 1) lines ≡ Ok events) is.0 (p.3 ∙ ap Ok is.1) in
    let rest = events-sound shape (latest_after latest e) (number + 1) lines events (omega (arith, within)) more in
    let few = rest.1 in
    ((one.0, rest.0), omega (arith, few), rises-more latest (session_of e) (sessions_of events) one.1 rest.2)

pub events-only : (shape : Shape) (latest number : ℕ) (lines : List (List ℕ)) (events : List Event) → AllZip (IsEventLine shape) lines events → number + length events ≤ 65538
    → RisesFrom latest (sessions_of events) → events_from shape latest number lines ≡ Ok events
unfolding events_from
events-only shape latest number [] [] w few rising = refl
events-only shape latest number [] (e ∷ events) w few rising = absurd w
events-only shape latest number (line ∷ lines) [] w few rising = absurd w
events-only shape latest number (line ∷ lines) (e ∷ events) w few rising =
    let parts = rises-parts latest (session_of e) (sessions_of events) rising in
    ap (λ r. after r (λ f. after_events (f ∷ []) (events_from shape (latest_after latest f) (number + 1) lines)))
    (numbered-only shape latest number line e w.0 parts.0 (omega (arith, few)))
    ∙ ap (after_events (e ∷ [])) (events-only shape (latest_after latest e) (number + 1) lines events w.1 (omega (arith, few)) parts.1)

-- ---- the first line that is none

-- the events of the lines before the wrong one, and why it is wrong; so many events and that session stand before all
pub record IsBreak (shape : Shape) (latest before : ℕ) (lines : List (List ℕ)) (wrong : ScheduleError) : Type 0 where
  pub right : List (List ℕ)
  pub line : List ℕ
  pub others : List (List ℕ)
  pub events : List Event
  pub split : lines ≡ right ++ line ∷ others
  pub are_events : AllZip (IsEventLine shape) right events
  pub few : before + length events ≤ 65536
  pub rising : RisesFrom latest (sessions_of events)
  pub is_wrong : IsWrongEvent shape (before + length events) (latest_session latest (sessions_of events)) line wrong.cause
  pub is_at : wrong.line ≡ before + length events + 2

first_break : (shape : Shape) (latest before : ℕ) (line : List ℕ) (lines : List (List ℕ)) (wrong : ScheduleError) → before ≤ 65536
    → IsWrongEvent shape before latest line wrong.cause × (wrong.line ≡ before + 2) → IsBreak shape latest before (line ∷ lines) wrong
first_break shape latest before line lines wrong few w =
    let is_at = w.1 in
    let none : before ≡ before + length {A = Event} [] = omega arith in
    record {
      right = [];
      line = line;
      others = lines;
      events = [];
      split = refl;
      are_events = tt;
      few = omega (arith, few);
      rising = tt;
      is_wrong = subst (λ n. IsWrongEvent shape n latest line wrong.cause) none w.0;
      is_at = omega (arith, is_at);
    }

later_break : (shape : Shape) (latest before : ℕ) (line : List ℕ) (lines : List (List ℕ)) (e : Event) (wrong : ScheduleError)
    → IsEventLine shape line e → IsNext latest (session_of e) → IsBreak shape (latest_after latest e) (before + 1) lines wrong → IsBreak shape latest before (line ∷ lines) wrong
later_break shape latest before line lines e wrong is next w =
    let few = w.few in
    let is_at = w.is_at in
    let one : before + 1 + length w.events ≡ before + length (e ∷ w.events) = omega arith in
    record {
      right = line ∷ w.right;
      line = w.line;
      others = w.others;
      events = e ∷ w.events;
      split = ap (λ ls. line ∷ ls) w.split;
      are_events = (is, w.are_events);
      few = omega (arith, few);
      rising = rises-more latest (session_of e) (sessions_of w.events) next w.rising;
      is_wrong = subst (λ n. IsWrongEvent shape n (latest_session latest (sessions_of (e ∷ w.events))) w.line wrong.cause) one
          (subst (λ n. IsWrongEvent shape (before + 1 + length w.events) n w.line wrong.cause) (latest-more latest (session_of e) (sessions_of w.events)) w.is_wrong);
      is_at = omega (arith, is_at);
    }

pub break-sound : (shape : Shape) (latest before number : ℕ) (lines : List (List ℕ)) (wrong : ScheduleError) → number ≡ before + 2 → before ≤ 65536
    → events_from shape latest number lines ≡ Err wrong → IsBreak shape latest before lines wrong
unfolding events_from
break-sound shape latest before number [] wrong is few h = absurd (ok-err {X = List Event} [] wrong h)
break-sound shape latest before number (line ∷ lines) wrong is few h =
    elim (event-err (numbered_event shape latest number line) (λ f. events_from shape (latest_after latest f) (number + 1) lines) wrong h) [
      | inl w ↦
          let p = numbered-wrong shape latest number before line wrong is few w in
          first_break shape latest before line lines wrong few (p.0, p.1 ∙ is)
      | inr w ↦
          let e = w.0 in
          let one = numbered-sound shape latest number line e w.1 in
          let within = one.2 in
          let next_is : number + 1 ≡ before + 1 + 2 = omega (arith, is) in
          later_break shape latest before line lines e wrong one.0 one.1
          (break-sound shape (latest_after latest e) (before + 1) (number + 1) lines wrong next_is (omega (arith, is, within)) w.2)
    ]
