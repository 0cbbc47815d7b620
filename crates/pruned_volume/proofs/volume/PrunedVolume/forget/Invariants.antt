use Rattle.std.proofs.Common.{◌≡◌, ◌++◌, map, take, drop}
use Rattle.pruned_volume.specs.Trees.{pruned}
use Rattle.pruned_volume.proofs.volume.PrunedVolume.forget.Given as goal

abbrev pub invariant-trees : goal.invariant-trees
invariant-trees l = l.tree-items ≡ map pruned (take l.tree-index l.initial.tree-items) ++ drop l.tree-index l.initial.tree-items
