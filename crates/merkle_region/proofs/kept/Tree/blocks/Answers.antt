use Rattle.std.proofs.Common.{◌≤◌, length}
use Rattle.merkle_region.proofs.KeptRoots.{few_blocks}
use Rattle.merkle_region.proofs.kept.Tree.blocks.Goals as goal

pub returns-clause-bound : goal.returns-clause-bound
returns-clause-bound c = let t = c.self.inside in rw (← c.self.view_is) (few_blocks t.height t.blocks.items t.digests.items c.self.invariant)
