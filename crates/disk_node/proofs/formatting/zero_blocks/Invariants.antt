use Rattle.std.proofs.Common.{◌≡◌, replicate}
use Rattle.disk_node.proofs.formatting.zero_blocks.Given as goal

abbrev pub invariant-zeros : goal.invariant-zeros
invariant-zeros l = l.blocks.items ≡ replicate l.counter (replicate l.size 0)
