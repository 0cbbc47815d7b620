use Rattle.std.proofs.Common.{rules}
use Rattle.restart_pool.specs.Following.{seen, NotBegun}
use Rattle.restart_pool.proofs.Taken.{each_more, each_all, item_among}
use Rattle.restart_pool.proofs.chain.whole_way.Goals as goal

pub whole_from-requires-clause-among : goal.whole_from-requires-clause-among
whole_from-requires-clause-among c = item_among c.args.lane.now.bases.now c.bases.base-index c.base-item.result c.bases-test.true c.base-item.is

pub bases-preserved : goal.bases-preserved
bases-preserved c =
    each_more (NotBegun (seen c.args.lane.now) c.args.way.now) c.args.lane.now.bases.now c.bases.base-index c.base-item.result c.bases-test.true c.base-item.is
    c.bases.invariant (search rules)

pub returns : goal.returns
returns c = each_all (NotBegun (seen c.args.lane.now) c.args.way.now) c.args.lane.now.bases.now c.bases.base-index c.bases-test.false c.bases.invariant
