use Rattle.std.proofs.Common.{◌+◌, take}
use Rattle.restart_pool.specs.Following.{seen}
use Rattle.restart_pool.proofs.Lengthening.{longer-none}
use Rattle.restart_pool.proofs.Taken.{taken_more, among_next, item_taken}
use Rattle.restart_pool.proofs.Rounds.{longer-on, longer-all}
use Rattle.restart_pool.proofs.chain.longer_ways.Goals as goal

pub ways-init : goal.ways-init
ways-init c = rw c.new-longer.ensures.items (longer-none (seen c.args.lane.now))

pub ways-preserved : goal.ways-preserved
ways-preserved c =
    let ways = c.args.ways.now in
    let i = c.ways.way-index in
    let x = c.way-item.result in
    longer-on (seen c.args.lane.now) (take i ways) (take (i + 1) ways) x c.ways.longer.items c.add_longer.new.longer.items
    (λ w m. taken_more ways i w m) (item_taken ways i x c.ways-test.true c.way-item.is) (λ w m. among_next ways i x c.ways-test.true c.way-item.is w m)
    c.ways.invariant c.in_ok-add_longer.ensures

pub returns : goal.returns
returns c = longer-all (seen c.args.lane.now) c.args.ways.now c.ways.way-index c.ways.longer.items c.ways-test.false c.ways.invariant
