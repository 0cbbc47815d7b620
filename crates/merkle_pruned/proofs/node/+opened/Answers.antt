use Rattle.std.proofs.Common.{◌∙◌, sym, arith}
use Rattle.std.proofs.lemmas.Result.{IfOk-weaker}
use Rattle.merkle_pruned.specs.Node.{subtree_of}
use Rattle.merkle_pruned.proofs.Opening.{path_subtree-leaf}
use Rattle.merkle_pruned.proofs.Side.{built_left, built_right}
use Rattle.merkle_pruned.proofs.node.+opened.Goals as goal

pub returns-then-height-eq0-clause-tree : goal.returns-then-height-eq0-clause-tree
returns-then-height-eq0-clause-tree t c =
    c.stub.ensures.tree ∙ sym (path_subtree-leaf c.args.height c.args.i c.args.leaf.now c.args.path.now c.if-height-eq0.true)

pub returns-in_ok-half-in-None-clause-tree : goal.returns-in_ok-half-in-None-clause-tree
returns-in_ok-half-in-None-clause-tree t c =
    IfOk-weaker c.joined.result _ _
    (λ node e. built_left c.args.height c.args.i c.args.leaf.now c.args.path.now (omega arith) c.requires c.index-path-height.result c.index-path-height.is
    (subtree_of c.in_ok-half-in-None.half) (subtree_of c.stub-sibling.result) (subtree_of node) c.stub-sibling.ensures.tree
    (sym c.in-None.is ∙ c.in_right.ensures) c.in_ok-half-in-None.ensures.tree e)
    c.joined.ensures

pub returns-in_ok-half-in-Some-clause-tree : goal.returns-in_ok-half-in-Some-clause-tree
returns-in_ok-half-in-Some-clause-tree t c =
    IfOk-weaker c.joined-in-Some.result _ _
    (λ node e. built_right c.args.height c.args.i c.args.leaf.now c.args.path.now (omega arith) c.requires c.index-path-height.result c.index-path-height.is
    (subtree_of c.in_ok-half-in-Some.half) (subtree_of c.stub-sibling.result) (subtree_of node) c.stub-sibling.ensures.tree
    c.in-Some.j (sym c.in-Some.is ∙ c.in_right.ensures) c.in_ok-half-in-Some.ensures.tree e)
    c.joined-in-Some.ensures
