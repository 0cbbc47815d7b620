use Rattle.std.proofs.Common.{subst, sym}
use Rattle.std.proofs.lemmas.Result.{IfOk-weaker}
use Rattle.merkle_region.specs.Tree.{root_of, block_at, Verifies}
use Rattle.merkle_region.proofs.Reached.{path_from-Verifies}
use Rattle.merkle_region.proofs.tree.path_of.Goals as goal

pub returns-clause-verifies : goal.returns-clause-verifies
returns-clause-verifies c =
    IfOk-weaker c.siblings.result _ _ (λ path e.
    subst (λ p. Verifies (root_of c.args.height c.args.blocks.now) c.args.height c.args.i (block_at c.args.blocks.now c.args.i) p) (sym e)
    (path_from-Verifies c.args.height c.args.blocks.now c.args.i c.requires.len c.requires.within))
    c.siblings.ensures
