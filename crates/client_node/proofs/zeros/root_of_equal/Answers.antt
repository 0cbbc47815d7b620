use Rattle.client_node.proofs.EqualBlocks.{lone_root, doubled}
use Rattle.client_node.proofs.zeros.root_of_equal.Goals as goal

pub levels-init : goal.levels-init
levels-init c = lone_root c.args.block.now c.leaf_digest-digest.result c.leaf_digest-digest.ensures

pub levels-preserved : goal.levels-preserved
levels-preserved c = doubled c.levels.counter c.args.block.now c.levels.digest c.node_digest-digest.result c.levels.invariant c.node_digest-digest.ensures
