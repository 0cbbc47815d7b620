use Rattle.std.proofs.Common.{◌≡◌}
use Rattle.trees_bench.proofs.apply_rounds.Given as goal

abbrev pub invariant-rounds : goal.invariant-rounds
invariant-rounds g l = l.tree.height ≡ 8
