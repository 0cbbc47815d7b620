use Rattle.std.proofs.Common.{◌≡◌}
use Rattle.trees_bench.proofs.graft_at.Given as goal

abbrev pub invariant-grafts : goal.invariant-grafts
invariant-grafts l = l.pruned.height ≡ 8
