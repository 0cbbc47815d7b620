use Rattle.std.proofs.Common.{◌≡◌}
use Rattle.trees_bench.proofs.round_of.Given as goal

abbrev pub invariant-records : goal.invariant-records
invariant-records l = l.tree.height ≡ 8
