use Rattle.std.proofs.Common.{◌≡◌, take}
use Rattle.replica_node.proofs.held_rules.copy_all.Given as goal

abbrev pub invariant-each : goal.invariant-each
invariant-each l = l.copy ≡ take l.block-index l.blocks
