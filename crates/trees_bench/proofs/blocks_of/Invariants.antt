use Rattle.std.proofs.Common.{◌≤◌, ◌-◌, vec_len}
use Rattle.trees_bench.proofs.blocks_of.Given as goal

abbrev pub invariant-each : goal.invariant-each
invariant-each l = vec_len l.blocks ≤ l.count

abbrev pub decreases-each : goal.decreases-each
decreases-each l = l.count - vec_len l.blocks
