use Rattle.std.proofs.Common.{◌≡◌, ◌^◌, replicate}
use Rattle.merkle_region.specs.Tree.{root_of}
use Rattle.client_node.proofs.zeros.root_of_equal.Given as goal

abbrev pub invariant-levels : goal.invariant-levels
invariant-levels l = l.digest ≡ root_of l.counter (replicate (2 ^ l.counter) l.block)
