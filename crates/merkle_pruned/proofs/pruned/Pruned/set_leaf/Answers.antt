use Rattle.merkle_pruned.specs.Node.{subtree_of}
use Rattle.merkle_pruned.proofs.Lawful.{LeafSet-from}
use Rattle.merkle_pruned.proofs.pruned.Pruned.set_leaf.Goals as goal

pub returns : goal.returns
returns c =
    LeafSet-from c.args.self.now c.self.inside.height (subtree_of c.self.inside.tree) (subtree_of c.set_leaf.new.self) c.args.i c.args.leaf
    c.self.view_is c.self.invariant.0 c.set_leaf.ensures.tree c.requires.within c.requires.reached
