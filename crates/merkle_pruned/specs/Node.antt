-- The subtree that a node keeps.
use Rattle.merkle_pruned.specs.Subtree.{Subtree, Closed, Opened}
use Rattle.merkle_pruned.specs.declared.node.Node.{Node}
use Rattle.merkle_pruned.specs.declared.node.Node.TheVariants.{Stub, Fork'}

abbrev pub subtree_of : Node → Subtree
subtree_of (Stub digest) = Closed digest
subtree_of (Fork' p left right) = Opened (subtree_of left) (subtree_of right)
