use Rattle.std.proofs.Common.{◌≡◌}
use Rattle.trees_bench.proofs.graft_all.Given as goal

abbrev pub invariant-places : goal.invariant-places
invariant-places g l = (l.tree.height ≡ 8) × (l.pruned.height ≡ 8)
