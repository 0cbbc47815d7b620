use Rattle.std.proofs.Common.{arith}
use Rattle.merkle_region.proofs.KeptRoots.{few_blocks}
use Rattle.merkle_region.proofs.kept.Tree.set.Goals as goal

pub put_leaf-requires-clause-few : goal.put_leaf-requires-clause-few
put_leaf-requires-clause-few c =
    let t = c.self.inside in
    let few = few_blocks t.height t.blocks.items t.digests.items c.self.invariant in
    omega (arith, few, t.blocks.ok)
