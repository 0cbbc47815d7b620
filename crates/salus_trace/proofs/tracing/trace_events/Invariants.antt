use Rattle.std.proofs.Common.{◌≡◌, ◌+◌, length}
use Rattle.schedule_text.specs.declared.schedule.Volume.{Volume}
use Rattle.run_course.specs.Course.{no_course}
use Rattle.salus_world.specs.Kept.{IsKept}
use Rattle.salus_world.specs.Runs.{formatted_origin}
use Rattle.salus_trace.specs.Before.{IsBefore}
use Rattle.salus_trace.proofs.tracing.trace_events.Given as goal

abbrev pub invariant-events : goal.invariant-events
invariant-events l = record {
  numbered : l.number ≡ length l.yielded + 1;
  before : (volume : Volume) → IsKept (formatted_origin volume) volume l.fn.events.items 1 1 l.fn.world no_course → IsBefore volume l.fn.events.items l.number l.world;
}
