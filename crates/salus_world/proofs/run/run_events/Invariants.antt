use Rattle.std.proofs.Common.{◌≡◌, ◌+◌, length}
use Rattle.schedule_text.specs.declared.schedule.Volume.{Volume}
use Rattle.run_course.specs.Course.{no_course}
use Rattle.salus_world.specs.Kept.{Origin, IsKept, HasRun}
use Rattle.salus_world.proofs.run.run_events.Given as goal

abbrev pub invariant-events : goal.invariant-events
invariant-events l = record {
  numbered : l.number ≡ length l.yielded + 1;
  run : (origin : Origin) (volume : Volume) → IsKept origin volume l.fn.events.items 1 1 l.fn.world no_course → HasRun origin volume l.fn.events.items l.yielded l.fn.world l.world;
}
