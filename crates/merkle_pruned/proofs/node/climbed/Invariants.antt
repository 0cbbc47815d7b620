use Rattle.std.proofs.Common.{◌≡◌, ◌/◌, ◌^◌, drop}
use Rattle.merkle_region.specs.Tree.{climb}
use Rattle.merkle_pruned.proofs.node.climbed.Given as goal

abbrev pub invariant-siblings : goal.invariant-siblings
invariant-siblings l =
    (l.place ≡ l.fn.i / 2 ^ l.sibling-index) × (climb l.place l.reached (drop l.sibling-index l.siblings) ≡ climb l.fn.i l.fn.digest l.fn.siblings)
