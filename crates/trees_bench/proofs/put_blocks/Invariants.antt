use Rattle.std.proofs.Common.{◌≡◌}
use Rattle.trees_bench.proofs.put_blocks.Given as goal

abbrev pub invariant-sets : goal.invariant-sets
invariant-sets l = l.tree.height ≡ 8
