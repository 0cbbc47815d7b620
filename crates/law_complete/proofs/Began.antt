-- The session that was asked for last since the client's last crash is open, or was, or is being opened.
use Rattle.std.proofs.Common.{◌≡◌, ◌⊎◌, ◌∙◌, inl, inr, ℕ, ◌==◌, ◌&&◌, ◌||◌, not, Bool, true, false, if◌then◌else◌, List, [], ◌∷◌, Option, None, Some, refl, sym, ap, subst, eq-eqb}
use Rattle.std.specs.Prelude.{IfSome, fold, unwrap_or}
use Rattle.std.specs.List.{list_any}
use Rattle.std.proofs.lemmas.Bool.{true≢false, or_left, or_right, cond-true, cond-false}
use Rattle.salus_types.specs.Volume.{Shape}
use Rattle.schedule_text.specs.declared.schedule.Volume.{Volume}
use Rattle.schedule_text.specs.declared.schedule.Event.{Event}
use Rattle.printed_lines.specs.declared.line.Line.{Line}
use Rattle.printed_lines.specs.declared.line.Line.TheVariants as line
use Rattle.printed_lines.specs.declared.line.RequestRefusal.{RequestRefusal}
use Rattle.merkle_region.specs.Tree.{IsAmong}
use Rattle.volume_model.specs.Parts.{Session}
use Rattle.salus_model.specs.declared.trace.Request.{Request}
use Rattle.salus_model.specs.declared.trace.Request.TheVariants as request
use Rattle.salus_model.specs.declared.trace.TraceStep.{TraceStep}
use Rattle.salus_model.specs.Judge.{Judge, is_among, known_at, opened_as, judged, judged_all}
use Rattle.salus_model.specs.Hearing.{News, Asks, Says, Crashes, Silence, Past, judge_of, since, is_open_line, opens, refuses, asks_to_open, begins, Phase, Serving, Closed, Gathering, Fetching, Staged, phase_by_news, phase_by_line, phase_of}
use Rattle.salus_model.specs.Waiting.{Taken, live, refusal_of}
use Rattle.salus_model.specs.Due.{due_request, due_news}
use Rattle.salus_model.specs.Complete.{is_crash, crashes, session_asked, last_begun}
use Rattle.list_lemmas.proofs.Tests.{by_bool, and_right}
use Rattle.kept_model.specs.Phases.{asked_of}
use Rattle.law_phases.specs.Moving.{OpensAsked}
use Rattle.law_phases.specs.Ordered.{OpensLast}
use Rattle.law_phases.proofs.Moving.{asked_same, asked_new}

-- ---- phases

-- session e is being opened
abbrev pub IsOpening : Phase → ℕ → Type 0
IsOpening (Gathering d) e = d ≡ e
IsOpening (Fetching d g) e = d ≡ e
IsOpening (Staged d) e = d ≡ e
IsOpening Serving e = ⊥
IsOpening Closed e = ⊥

abbrev OpensSome : Phase → Type 0
OpensSome (Gathering d) = Unit {0}
OpensSome (Fetching d g) = Unit {0}
OpensSome (Staged d) = Unit {0}
OpensSome Serving = ⊥
OpensSome Closed = ⊥

some_opening : (phase : Phase) (e : ℕ) → IsOpening phase e → OpensSome phase
some_opening (Gathering d) e is = tt
some_opening (Fetching d g) e is = tt
some_opening (Staged d) e is = tt
some_opening Serving e is = is
some_opening Closed e is = is

asked_is : (phase : Phase) (asked e : ℕ) → OpensAsked phase asked → IsOpening phase e → asked ≡ e
asked_is (Gathering d) asked e last is = last ∙ is
asked_is (Fetching d g) asked e last is = last ∙ is
asked_is (Staged d) asked e last is = last ∙ is
asked_is Serving asked e last is = absurd is
asked_is Closed asked e last is = absurd is

opens_last_one : (phase : Phase) (asked e : ℕ) → OpensAsked phase asked → OpensSome phase → asked ≡ e → IsOpening phase e
opens_last_one (Gathering d) asked e last some is = sym last ∙ is
opens_last_one (Fetching d g) asked e last some is = sym last ∙ is
opens_last_one (Staged d) asked e last some is = sym last ∙ is
opens_last_one Serving asked e last some is = some
opens_last_one Closed asked e last some is = some

-- a line that neither opens a session nor tells of one that is lost
opening_line : (phase : Phase) (l : Line) → is_open_line l ≡ false → ((e : ℕ) → line.Lost e ≡ l → ⊥) → OpensSome phase → OpensSome (phase_by_line phase l)
opening_line phase (line.Open e) none unlost some = absurd (true≢false none)
opening_line phase (line.Lost e) none unlost some = absurd (unlost e refl)
opening_line phase (line.Stage e f s) none unlost some = tt
opening_line phase other none unlost some = some

or_none : (a b : Bool) → (a || b) ≡ false → (a ≡ false) × (b ≡ false)
or_none true b is = absurd (true≢false is)
or_none false b is = (refl, is)

opening_lines : (lines : List Line) (phase : Phase) → list_any is_open_line lines ≡ false → ((e : ℕ) → IsAmong (line.Lost e) lines → ⊥) → OpensSome phase → OpensSome (fold phase_by_line phase lines)
opening_lines [] phase none unlost some = some
opening_lines (l ∷ lines) phase none unlost some =
    let parts = or_none (is_open_line l) (list_any is_open_line lines) none in
    opening_lines lines (phase_by_line phase l) parts.1 (λ e among. unlost e (inr among)) (opening_line phase l parts.0 (λ e is. unlost e (inl is)) some)

opening_asked : (r : Request) (refused : Bool) (phase : Phase) → (asks_to_open (Asks r) && not refused) ≡ false → OpensSome phase → OpensSome (phase_by_news refused (Asks r) phase)
opening_asked r true phase none some = some
opening_asked (request.Restart e) false phase none some = absurd (true≢false none)
opening_asked (request.Reassign e g) false phase none some = absurd (true≢false none)
opening_asked (request.Write batch) false phase none some = some
opening_asked (request.Read b) false phase none some = some
opening_asked request.Barrier false phase none some = some

opening_news : (x : News) (refused : Bool) (phase : Phase) → is_crash x ≡ false → (asks_to_open x && not refused) ≡ false → OpensSome phase → OpensSome (phase_by_news refused x phase)
opening_news (Asks r) refused phase calm none some = opening_asked r refused phase none some
opening_news (Says name m) refused phase calm none some = some
opening_news Silence refused phase calm none some = some
opening_news Crashes refused phase calm none some = absurd (true≢false calm)

-- ---- a session that is begun

module _ (volume : Volume) (events : List Event) (history : List Past) (t : TraceStep) where
  abbrev judge : Judge
  judge = judge_of volume.geometry events history

  abbrev past : News → List Line → Past
  past x lines = record { step = t; news = x; before = judge; lines = lines }

  begun_request : (r : Request) (requests : List Taken) (o : Option RequestRefusal) → begins (past (Asks r) (due_request events judge requests t.event r o)) ≡ true
      → OpensSome (phase_of (past (Asks r) (due_request events judge requests t.event r o) ∷ history))
  unfolding phase_of
  begun_request r requests (Some cause) is = absurd (true≢false (sym (and_right (asks_to_open (Asks r)) false is)))
  begun_request (request.Restart e) requests None is = tt
  begun_request (request.Reassign e g) requests None is = tt
  begun_request (request.Write batch) requests None is = absurd (true≢false (sym is))
  begun_request (request.Read b) requests None is = absurd (true≢false (sym is))
  begun_request request.Barrier requests None is = absurd (true≢false (sym is))

  pub begun_opening : (x : News) → begins (past x (due_news volume events history judge t.event x)) ≡ true → OpensSome (phase_of (past x (due_news volume events history judge t.event x) ∷ history))
  unfolding due_news
  begun_opening (Asks r) is = begun_request r (live history judge) (refusal_of volume.geometry (phase_of history) judge (live history judge) r) is
  begun_opening (Says name m) is = absurd (true≢false (sym is))
  begun_opening Crashes is = absurd (true≢false (sym is))
  begun_opening Silence is = absurd (true≢false (sym is))

-- ---- a session that is open stays among those that were opened

module _ (events : List Event) (e : ℕ) where
  opened_more : (was : Judge) (k : ℕ) (o : Option Session) → is_among e was.opened ≡ true → is_among e (opened_as was k o).opened ≡ true
  opened_more was k None is = or_right (k == e) (is_among e was.opened) is
  opened_more was k (Some known) is = or_right (k == e) (is_among e was.opened) is

  opened_now : (was : Judge) (o : Option Session) → is_among e (opened_as was e o).opened ≡ true
  opened_now was None = or_left (e == e) (is_among e was.opened) (eq-eqb e e refl)
  opened_now was (Some known) = or_left (e == e) (is_among e was.opened) (eq-eqb e e refl)

  still_open : (was : Judge) (l : Line) → is_among e was.opened ≡ true → is_among e (judged events was l).opened ≡ true
  still_open was (line.Open k) is = opened_more was k (known_at was k) is
  still_open was (line.Submit v s) is = is
  still_open was (line.Ack s) is = is
  still_open was (line.Read v b x) is = is
  still_open was (line.Fault v b strikes) is = is
  still_open was (line.Barrier v s) is = is
  still_open was (line.Refused v cause) is = is
  still_open was (line.Skip v k) is = is
  still_open was (line.Stage k f s) is = is
  still_open was (line.Lost k) is = is

  still_opened : (lines : List Line) (was : Judge) → is_among e was.opened ≡ true → is_among e (judged_all events was lines).opened ≡ true
  unfolding judged_all
  still_opened [] was is = is
  still_opened (l ∷ lines) was is = still_opened lines (judged events was l) (still_open was l is)

  opened_one : (lines : List Line) (was : Judge) → lines ≡ line.Open e ∷ [] → is_among e (judged_all events was lines).opened ≡ true
  unfolding judged_all
  opened_one lines was is = subst (λ (l : List Line). is_among e (judged_all events was l).opened ≡ true) (sym is) (opened_now was (known_at was e))

-- ---- along the history

-- of the session that was asked for last since the client's last crash
abbrev pub OfBegun : Shape → List Event → List Past → Option ℕ → Type 0
OfBegun shape events history o = IfSome o (λ e. (is_among e (judge_of shape events history).opened ≡ true) ⊎ IsOpening (phase_of history) e)

abbrev pub BegunIs : Shape → List Event → List Past → Type 0
BegunIs shape events history = OfBegun shape events history (last_begun (since crashes history))

pub begun_first : (shape : Shape) (events : List Event) → BegunIs shape events []
unfolding last_begun since
begun_first shape events = tt

module _ (volume : Volume) (events : List Event) (history : List Past) (t : TraceStep) (x : News) where
  abbrev shape : Shape
  shape = volume.geometry

  abbrev p : Past
  p = past volume events history t x (due_news volume events history (judge_of volume.geometry events history) t.event x)

  module _ (unlost : (e : ℕ) → IsAmong (line.Lost e) p.lines → ⊥) (last : opens p ≡ true → OpensLast history p) (opening : OpensAsked (phase_of history) (asked_of history))
      (opening_then : OpensAsked (phase_of (p ∷ history)) (asked_of (p ∷ history))) where
    newly : (o : Option ℕ) → session_asked x ≡ o → begins p ≡ true → OfBegun shape events (p ∷ history) o
    newly None is begun = tt
    newly (Some e) is begun =
        inr (opens_last_one (phase_of (p ∷ history)) (asked_of (p ∷ history)) e opening_then (begun_opening volume events history t x begun) (asked_new p history e begun is))

    opening_on : (e : ℕ) → is_crash x ≡ false → begins p ≡ false → opens p ≡ false → IsOpening (phase_of history) e → IsOpening (phase_of (p ∷ history)) e
    unfolding phase_of
    opening_on e calm none unopened is =
        opens_last_one (phase_of (p ∷ history)) (asked_of (p ∷ history)) e opening_then
        (opening_lines p.lines (phase_by_news (refuses p) x (phase_of history)) unopened unlost (opening_news x (refuses p) (phase_of history) calm none (some_opening (phase_of history) e is)))
        (asked_same p history none ∙ asked_is (phase_of history) (asked_of history) e opening is)

    opened_on : (e : ℕ) → opens p ≡ true → IsOpening (phase_of history) e → is_among e (judge_of shape events (p ∷ history)).opened ≡ true
    opened_on e opened is =
        let one : OpensLast history p = last opened in
        let same : one.e ≡ e = sym (ap (λ (o : Option ℕ). unwrap_or o 1) one.last) ∙ asked_is (phase_of history) (asked_of history) e opening is in
        opened_one events e p.lines (judge_of volume.geometry events history) (one.only ∙ ap (λ (k : ℕ). line.Open k ∷ []) same)

    stays : (o : Option ℕ) → is_crash x ≡ false → begins p ≡ false → OfBegun shape events history o → OfBegun shape events (p ∷ history) o
    stays None calm none of = tt
    stays (Some e) calm none (inl opened) = inl (still_opened events e p.lines (judge_of volume.geometry events history) opened)
    stays (Some e) calm none (inr is) =
        by_bool (opens p) (OfBegun shape events (p ∷ history) (Some e)) (λ opened. inl (opened_on e opened is)) (λ unopened. inr (opening_on e calm none unopened is))

    -- a step more
    pub begun_then : BegunIs shape events history → BegunIs shape events (p ∷ history)
    unfolding since last_begun
    begun_then was =
        by_bool (is_crash x) (BegunIs shape events (p ∷ history))
        (λ crash. subst (λ (l : List Past). OfBegun shape events (p ∷ history) (last_begun l)) (sym (cond-true (is_crash x) [] (p ∷ since crashes history) crash)) tt)
        (λ calm. subst (λ (l : List Past). OfBegun shape events (p ∷ history) (last_begun l)) (sym (cond-false (is_crash x) [] (p ∷ since crashes history) calm))
        (by_bool (begins p) (OfBegun shape events (p ∷ history) (if begins p then session_asked x else last_begun (since crashes history)))
        (λ begun. subst (OfBegun shape events (p ∷ history)) (sym (cond-true (begins p) (session_asked x) (last_begun (since crashes history)) begun)) (newly (session_asked x) refl begun))
        (λ none. subst (OfBegun shape events (p ∷ history)) (sym (cond-false (begins p) (session_asked x) (last_begun (since crashes history)) none)) (stays (last_begun (since crashes history)) calm none was))))

-- at the end the client opens none
pub begun_ended : (shape : Shape) (events : List Event) (history : List Past) → ((e : ℕ) → IsOpening (phase_of history) e → ⊥) → BegunIs shape events history
    → IfSome (last_begun (since crashes history)) (λ e. is_among e (judge_of shape events history).opened ≡ true)
begun_ended shape events history none was = by (last_begun (since crashes history)) was where
  by : (o : Option ℕ) → OfBegun shape events history o → IfSome o (λ e. is_among e (judge_of shape events history).opened ≡ true)
  by None of = tt
  by (Some e) (inl opened) = opened
  by (Some e) (inr is) = absurd (none e is)
