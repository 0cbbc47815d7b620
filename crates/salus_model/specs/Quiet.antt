-- Runs without faults, lies and losses.
use Rattle.std.specs.Prelude.{◌≡◌, ℕ, ◌<◌, ◌≤◌, true, Bool, false, List, length}
use Rattle.std.specs.List.{list_all}
use Rattle.schedule_text.specs.declared.schedule.Event.{Event}
use Rattle.schedule_text.specs.declared.schedule.Event.TheVariants as event
use Rattle.salus_model.specs.declared.trace.TraceStep.{TraceStep}
use Rattle.salus_model.specs.Following.{Posted, was_handed}

-- a request, a delivery, a tick or a crash of the client
abbrev pub is_quiet : Event → Bool
is_quiet (event.Drop k) = false
is_quiet (event.Lie from to bytes) = false
is_quiet (event.Stop k calls keep fill) = false
is_quiet (event.Crash node keep fill) = false
is_quiet (event.Fail node call) = false
is_quiet (event.Replace node) = false
is_quiet other = true

-- there are only such events, and by the end every message was handed over
pub record Quiet (events : List Event) (posts : List Posted) (trace : List TraceStep) : Type 0 where
  pub events_quiet : list_all is_quiet events ≡ true
  pub all_handed : (k : ℕ) → 0 < k → k ≤ length posts → was_handed trace k ≡ true
