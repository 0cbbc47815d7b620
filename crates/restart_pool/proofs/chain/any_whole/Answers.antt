use Rattle.std.proofs.Common.{rules}
use Rattle.restart_pool.specs.declared.chain.Way.{Way}
use Rattle.restart_pool.specs.Following.{seen, NoneStarts, later_of}
use Rattle.restart_pool.proofs.Taken.{each_more, each_all, item_among}
use Rattle.restart_pool.proofs.chain.any_whole.Goals as goal

pub returns-in-Some : goal.returns-in-Some
returns-in-Some c = record {
  way = c.way-item.result;
  among = item_among c.args.ways.now c.ways.way-index c.way-item.result c.ways-test.true c.way-item.is;
  begins = search rules;
}

pub ways-preserved : goal.ways-preserved
ways-preserved c =
    each_more (λ (way : Way). NoneStarts (seen c.args.lane.now) way.at (later_of (seen c.args.lane.now) way)) c.args.ways.now c.ways.way-index c.way-item.result c.ways-test.true c.way-item.is
    c.ways.invariant (search rules)

pub returns : goal.returns
returns c = each_all (λ (way : Way). NoneStarts (seen c.args.lane.now) way.at (later_of (seen c.args.lane.now) way)) c.args.ways.now c.ways.way-index c.ways-test.false c.ways.invariant
