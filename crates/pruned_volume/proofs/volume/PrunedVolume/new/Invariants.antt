use Rattle.std.proofs.Common.{◌≡◌, map, take}
use Rattle.pruned_volume.specs.Trees.{closed_tree}
use Rattle.pruned_volume.proofs.volume.PrunedVolume.new.Given as goal

abbrev pub invariant-roots : goal.invariant-roots
invariant-roots l = l.trees.items ≡ map (closed_tree l.geometry) (take l.root-index l.roots)
