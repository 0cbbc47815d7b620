use Rattle.salus_world.specs.Memory.{AreEmpty}
use Rattle.salus_world.proofs.memory.empty_disks.Given as goal

abbrev pub invariant-disks : goal.invariant-disks
invariant-disks l = AreEmpty l.counter l.disks.items
