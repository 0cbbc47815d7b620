use Rattle.std.proofs.Common.{◌≡◌, length}
use Rattle.salus_world.specs.Places.{AllThere}
use Rattle.salus_world.proofs.formatting.hand_back.Given as goal

abbrev pub invariant-nodes : goal.invariant-nodes
invariant-nodes g l = AllThere l.yielded → length l.disks.items ≡ length l.yielded
