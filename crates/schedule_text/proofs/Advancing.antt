-- What a line that is read adds to the lines after it.
use Rattle.std.proofs.Common.{◌≡◌, ℕ, ◌+◌, ◌<◌, ◌≤◌, Bool, true, false, cond, ltb, List, [], ◌∷◌, ◌++◌, length, refl, sym, ap, ◌∙◌, arith, append_assoc, append-nil}
use Rattle.std.specs.Prelude.{IfSome, Result, Ok, Err}
use Rattle.std.proofs.lemmas.Bool.{ltb-false}
use Rattle.salus_types.specs.Volume.{Shape}
use Rattle.text_words.specs.Reading.{front, past, lines_left}
use Rattle.text_words.proofs.Stepping.{lines_left_step}
use Rattle.schedule_text.specs.declared.error.Cause.{Cause}
use Rattle.schedule_text.specs.declared.error.Cause.TheVariants as cause
use Rattle.schedule_text.specs.declared.error.ScheduleError.{ScheduleError}
use Rattle.schedule_text.specs.declared.error.ParseError.{ParseError}
use Rattle.schedule_text.specs.declared.error.ParseError.TheVariants as error
use Rattle.schedule_text.specs.declared.schedule.Event.{Event}
use Rattle.schedule_text.specs.Outcome.{text_fault}
use Rattle.schedule_text.specs.Reading.{after, at_line, next_event, numbered_event, latest_after, after_events, events_from}

pub events-nil : (r : Result (List Event) ScheduleError) → after_events [] r ≡ r
events-nil (Ok events) = refl
events-nil (Err wrong) = refl

events-push : (events : List Event) (e : Event) (r : Result (List Event) ScheduleError) → after_events events (after_events (e ∷ []) r) ≡ after_events (events ++ e ∷ []) r
events-push events e (Ok more) = ap Ok (sym (append_assoc events (e ∷ []) more))
events-push events e (Err wrong) = refl

-- the lines that a text still has begin with its first one
events-step : (shape : Shape) (latest line : ℕ) (rest : List ℕ) → 0 < length rest
    → events_from shape latest line (lines_left rest)
    ≡ after (numbered_event shape latest line (front 10 rest)) (λ e. after_events (e ∷ []) (events_from shape (latest_after latest e) (line + 1) (lines_left (past 10 rest))))
unfolding events_from
events-step shape latest line [] h = absurd (omega (arith, h))
events-step shape latest line (b ∷ bytes) h = ap (events_from shape latest line) (lines_left_step b bytes)

pub events-wrong : (shape : Shape) (latest line : ℕ) (rest words : List ℕ) (events : List Event) (wrong : ScheduleError) → 0 < length rest → words ≡ front 10 rest
    → numbered_event shape latest line words ≡ Err wrong → after_events events (events_from shape latest line (lines_left rest)) ≡ Err wrong
events-wrong shape latest line rest words events wrong h at_front is =
    ap (after_events events) (events-step shape latest line rest h
    ∙ ap (λ p. after p (λ e. after_events (e ∷ []) (events_from shape (latest_after latest e) (line + 1) (lines_left (past 10 rest)))))
    (ap (numbered_event shape latest line) (sym at_front) ∙ is))

pub events-more : (shape : Shape) (latest later line : ℕ) (rest words more : List ℕ) (events longer : List Event) (e : Event) → 0 < length rest
    → words ≡ front 10 rest → more ≡ past 10 rest → numbered_event shape latest line words ≡ Ok e → later ≡ latest_after latest e → longer ≡ events ++ e ∷ []
    → after_events longer (events_from shape later (line + 1) (lines_left more)) ≡ after_events events (events_from shape latest line (lines_left rest))
events-more shape latest later line rest words more events longer e h at_front after_it is is_later grown =
    let one : events_from shape latest line (lines_left rest) ≡ after_events (e ∷ []) (events_from shape (latest_after latest e) (line + 1) (lines_left (past 10 rest))) =
    events-step shape latest line rest h
    ∙ ap (λ p. after p (λ e. after_events (e ∷ []) (events_from shape (latest_after latest e) (line + 1) (lines_left (past 10 rest)))))
    (ap (numbered_event shape latest line) (sym at_front) ∙ is) in
    ap (λ l. after_events l (events_from shape later (line + 1) (lines_left more))) grown
    ∙ (ap (λ n. after_events (events ++ e ∷ []) (events_from shape n (line + 1) (lines_left more))) is_later
    ∙ (ap (λ b. after_events (events ++ e ∷ []) (events_from shape (latest_after latest e) (line + 1) (lines_left b))) after_it
    ∙ (sym (events-push events e (events_from shape (latest_after latest e) (line + 1) (lines_left (past 10 rest)))) ∙ ap (after_events events) (sym one))))

pub events-end : (shape : Shape) (latest line : ℕ) (rest : List ℕ) (events : List Event) → length rest ≡ 0 → after_events events (events_from shape latest line (lines_left rest)) ≡ Ok events
unfolding events_from lines_left
events-end shape latest line [] events h = ap Ok (append-nil events)
events-end shape latest line (b ∷ bytes) events h = absurd (omega (arith, h))

wrong_ok : (number : ℕ) (c : Cause) (e : Event) → ◌≡◌ {A = Result Event ScheduleError} (at_line number (Err c)) (Ok e) → ⊥
wrong_ok number c e h = cc

pub event-within : (shape : Shape) (latest line : ℕ) (words : List ℕ) (e : Event) → numbered_event shape latest line words ≡ Ok e → line ≤ 65537
event-within shape latest line words e h = by (ltb 65537 line) refl h
  where
    by : (t : Bool) → ltb 65537 line ≡ t → at_line line (cond t (Err cause.Long) (next_event shape latest words)) ≡ Ok e → line ≤ 65537
    by true is found = absurd (wrong_ok line cause.Long e found)
    by false is found = ltb-false 65537 line is

pub fails-too : {X Y : Type 0} (e : ParseError) (m : Result X ScheduleError) (n : Result Y ScheduleError) → ((wrong : ScheduleError) → m ≡ Err wrong → n ≡ Err wrong)
    → IfSome (text_fault e) (λ refused. m ≡ refused) → IfSome (text_fault e) (λ refused. n ≡ refused)
fails-too (error.Refused wrong) m n f h = f wrong h
fails-too error.NoMemory m n f h = tt
