use Rattle.std.proofs.Common.{◌∙◌, ap}
use Rattle.merkle_pruned.specs.Subtree.{Closed}
use Rattle.merkle_pruned.specs.Tree.{PrunedTree}
use Rattle.merkle_pruned.proofs.Lawful.{closed-agrees}
use Rattle.merkle_pruned.proofs.pruned.Pruned.prune_all.Goals as goal

pub returns-clause-agrees : goal.returns-clause-agrees
returns-clause-agrees c = λ blocks agrees.
    closed-agrees c.args.self.now _ blocks (ap (λ (t : PrunedTree). t.height) (c.self.view_is ∙ c.settle-root.ensures.same))
    (c.new.ensures.tree ∙ ap Closed c.settle-root.ensures.value) agrees
