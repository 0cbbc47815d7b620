-- Where no step asks to open a session, the client never gathers.
use Rattle.std.proofs.Common.{◌≡◌, ℕ, Bool, true, false, if◌then◌else◌, List, [], ◌∷◌, inl, inr, refl, ap, sym, ◌∙◌}
use Rattle.std.specs.Prelude.{fold}
use Rattle.std.proofs.lemmas.Bool.{false≢true}
use Rattle.printed_lines.specs.declared.line.Line.{Line}
use Rattle.printed_lines.specs.declared.line.Line.TheVariants as line
use Rattle.merkle_region.specs.Tree.{IsAmong}
use Rattle.schedule_text.specs.declared.schedule.Volume.{Volume}
use Rattle.schedule_text.specs.declared.schedule.Event.{Event}
use Rattle.salus_model.specs.declared.trace.Request.TheVariants as request
use Rattle.salus_model.specs.declared.trace.TraceStep.{TraceStep}
use Rattle.salus_model.specs.Following.{Posted}
use Rattle.salus_model.specs.Hearing.{News, Asks, Says, Crashes, Silence, news_of, asks_to_open, Past, refuses, Phase, Gathering, phase_of, phase_by_news, phase_by_line}
use Rattle.salus_model.specs.Due.{past_of}
use Rattle.law_lines.specs.Scheduled.{ChoicesHold}

abbrev pub is_gathering : Phase → Bool
is_gathering (Gathering e) = true
is_gathering other = false

line_kept : (phase : Phase) (l : Line) → is_gathering phase ≡ false → is_gathering (phase_by_line phase l) ≡ false
line_kept phase (line.Submit v s) calm = calm
line_kept phase (line.Ack s) calm = calm
line_kept phase (line.Read v b x) calm = calm
line_kept phase (line.Fault v b strikes) calm = calm
line_kept phase (line.Barrier v s) calm = calm
line_kept phase (line.Refused v cause) calm = calm
line_kept phase (line.Skip v k) calm = calm
line_kept phase (line.Stage e f s) calm = refl
line_kept phase (line.Open e) calm = refl
line_kept phase (line.Lost e) calm = refl

lines_kept : (lines : List Line) (phase : Phase) → is_gathering phase ≡ false → is_gathering (fold phase_by_line phase lines) ≡ false
lines_kept [] phase calm = calm
lines_kept (l ∷ lines) phase calm = lines_kept lines (phase_by_line phase l) (line_kept phase l calm)

either_kept : (refused : Bool) (phase : Phase) → is_gathering phase ≡ false → is_gathering (if refused then phase else phase) ≡ false
either_kept true phase calm = calm
either_kept false phase calm = calm

news_kept : (refused : Bool) (x : News) (phase : Phase) → is_gathering phase ≡ false → asks_to_open x ≡ false → is_gathering (phase_by_news refused x phase) ≡ false
news_kept refused (Asks (request.Write batch)) phase calm none = either_kept refused phase calm
news_kept refused (Asks (request.Read b)) phase calm none = either_kept refused phase calm
news_kept refused (Asks request.Barrier) phase calm none = either_kept refused phase calm
news_kept refused (Asks (request.Restart e)) phase calm none = absurd (cc)
news_kept refused (Asks (request.Reassign e g)) phase calm none = absurd (cc)
news_kept refused (Says name m) phase calm none = calm
news_kept refused Crashes phase calm none = refl
news_kept refused Silence phase calm none = calm

pub phase_kept : (history : List Past) (p : Past) → is_gathering (phase_of history) ≡ false → asks_to_open p.news ≡ false → is_gathering (phase_of (p ∷ history)) ≡ false
unfolding phase_of
phase_kept history p calm none = lines_kept p.lines (phase_by_news (refuses p) p.news (phase_of history)) (news_kept (refuses p) p.news (phase_of history) calm none)

pub first_phase : is_gathering (phase_of []) ≡ false
unfolding phase_of
first_phase = refl

pub not_gathering : (phase : Phase) (e : ℕ) → is_gathering phase ≡ false → phase ≡ Gathering e → ⊥
not_gathering phase e calm is = absurd (false≢true (sym calm ∙ ap is_gathering is))

-- so nothing is chosen
pub none_chosen : (volume : Volume) (events : List Event) (posts : List Posted) (steps : List TraceStep) (history : List Past) → is_gathering (phase_of history) ≡ false
    → ((t : TraceStep) → IsAmong t steps → asks_to_open (news_of posts t) ≡ false) → ChoicesHold volume events posts history steps
unfolding ChoicesHold
none_chosen volume events posts [] history calm none = tt
none_chosen volume events posts (step ∷ steps) history calm none = (
  λ e phase. absurd (not_gathering (phase_of history) e calm phase),
  none_chosen volume events posts steps (past_of volume events posts history step ∷ history) (phase_kept history (past_of volume events posts history step) calm (none step (inl refl)))
      (λ t among. none t (inr among)),
)
