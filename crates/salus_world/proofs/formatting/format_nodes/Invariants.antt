use Rattle.std.proofs.Common.{length, IsTrue, vec_len}
use Rattle.std.specs.List.{AllByRecursion}
use Rattle.salus_world.specs.Places.{AllUnharmed, AreFormatted}
use Rattle.salus_world.proofs.Splitting.{AreSplit}
use Rattle.salus_world.proofs.formatting.format_nodes.Given as goal

abbrev pub invariant-nodes : goal.invariant-nodes
invariant-nodes g l = record {
  made : AreFormatted l.geometry l.key (length l.made.items) l.made.items;
  split : AreSplit l.fn.disks.items l.left.items (length l.made.items);
  sure : AllByRecursion (λ disk. IsTrue (g.D.Disk.is_sure disk)) l.fn.disks.items → AllUnharmed l.made.items;
}

abbrev pub decreases-nodes : goal.decreases-nodes
decreases-nodes g l = vec_len l.left
