use Rattle.std.proofs.Common.{◌≡◌, drop}
use Rattle.merkle_region.specs.Tree.{climb}
use Rattle.merkle_region.proofs.path.fold_path.Given as goal

abbrev pub invariant-siblings : goal.invariant-siblings
invariant-siblings l = climb l.place l.digest (drop l.sibling-index l.sibling-items) ≡ climb l.fn.i l.fn.leaf l.fn.path
