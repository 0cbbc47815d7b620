use Rattle.std.proofs.Common.{ℕ, List, ◌<◌, ◌∙◌, ap, sym, arith}
use Rattle.salus_hash.specs.Hash.{inner}
use Rattle.disk_node.proofs.Uniform.{equal_leaf, equal_halves}
use Rattle.disk_node.proofs.formatting.+root_of_equal.Goals as goal

pub returns-then-height-eq0 : goal.returns-then-height-eq0
returns-then-height-eq0 t c = c.leaf_digest.ensures ∙ sym (equal_leaf c.args.height c.args.block.now c.if-height-eq0.true)

pub returns : goal.returns
returns t c =
    let above : 0 < c.args.height = omega arith in
    c.node_digest.ensures ∙ (ap (λ (d : List ℕ). inner d d) c.root_of_equal-half.ensures ∙ sym (equal_halves c.args.height c.args.block.now above))
