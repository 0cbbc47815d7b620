-- The course of a run, event by event.
use Rattle.std.specs.Prelude.{◌≡◌, ℕ, ◌+◌, if◌then◌else◌, List, [], ◌∷◌, ◌++◌, length, flat_map, reverse}
use Rattle.std.specs.List.{AllByRecursion}
use Rattle.schedule_text.specs.declared.schedule.Event.{Event}
use Rattle.printed_lines.specs.declared.line.Line.{Line}
use Rattle.salus_model.specs.declared.trace.TraceStep.{TraceStep}
use Rattle.salus_model.specs.Following.{Posted, sent_by, is_skipped, dropped_after, IsEventDone}
use Rattle.salus_model.specs.Due.{skip_line}

-- a run between two events: its steps, the messages that were dropped, the lines of each step, and all lines
pub record Course : Type 0 where
  pub trace : List TraceStep
  pub dropped : List ℕ
  pub told : List (List Line)
  pub lines : List Line

-- how many messages were sent before the next event
abbrev pub sent_so_far : Course → ℕ
sent_so_far was = sent_by (reverse was.trace)

abbrev pub event_lines : List Posted → ℕ → Event → Course → List (List Line) → List Line
event_lines posts n e was said = if is_skipped posts (sent_so_far was) e then skip_line n e else flat_map (λ l. l) said

-- what event n makes of it
pub record IsEvent (posts : List Posted) (n : ℕ) (e : Event) (was now : Course) : Type 0 where
  -- the steps of the event, and the lines of each
  pub here : List TraceStep
  pub said : List (List Line)
  pub trace : now.trace ≡ was.trace ++ here
  pub told : now.told ≡ was.told ++ said
  pub each : length said ≡ length here
  pub numbered : AllByRecursion (λ step. step.event ≡ n) here
  pub done : IsEventDone (is_skipped posts (sent_so_far was) e) posts (reverse was.trace) was.dropped n e here
  pub dropped : now.dropped ≡ dropped_after (sent_so_far was) was.dropped e
  pub lines : now.lines ≡ was.lines ++ event_lines posts n e was said

-- what these events make of it, of which the first has number n
unfoldable pub Goes : List Posted → ℕ → List Event → Course → Course → Type 0
Goes posts n [] was now = was ≡ now
Goes posts n (e ∷ events) was now = (mid : Course) × IsEvent posts n e was mid × Goes posts (n + 1) events mid now

-- before the first event
abbrev pub no_course : Course
no_course = record { trace = []; dropped = []; told = []; lines = [] }
