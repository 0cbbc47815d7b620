use Rattle.std.proofs.Common.{ℕ, List}
use Rattle.schedule_text.specs.declared.schedule.Volume.{Volume}
use Rattle.schedule_text.specs.declared.schedule.Event.{Event}
use Rattle.run_course.specs.Course.{Course}
use Rattle.salus_world.specs.Kept.{Origin, IsKept, HasSettled}
use Rattle.salus_world.proofs.world.World.settle.Given as goal

abbrev pub invariant-deliveries : goal.invariant-deliveries
invariant-deliveries g l = record {
  ongoing : (origin : Origin) × (volume : Volume) × (all : List Event) × (b : ℕ) × (n : ℕ) × (c : Course) × IsKept origin volume all b n l.self c;
  settled : (number : ℕ) (origin : Origin) (volume : Volume) (all : List Event) (c : Course) → IsKept origin volume all number number l.fn.self c → HasSettled origin volume all number l.done l.fn.self l.self c;
}
