-- A world between two events.
use Rattle.std.specs.Prelude.{ℕ, List}
use Rattle.schedule_text.specs.declared.schedule.Volume.{Volume}
use Rattle.schedule_text.specs.declared.schedule.Event.{Event}
use Rattle.run_course.specs.Course.{Course}
use Rattle.disk_model.specs.declared.memory.MemDisk.{MemDisk}
use Rattle.salus_world.specs.declared.world.World.{World}
use Rattle.salus_world.specs.Kept.{IsKept}
use Rattle.salus_world.specs.Runs.{formatted_origin}

-- some course tells how it came about, and event n of these is the next one
abbrev pub IsBefore : {g : _} {lane : _} → Volume → List Event → ℕ → World MemDisk g lane → Type 0
IsBefore volume all n world = (c : Course) × IsKept (formatted_origin volume) volume all n n world c
