use Rattle.std.proofs.Common.{◌≡◌, None, rules}
use Rattle.std.specs.Prelude.{option_copied}
use Rattle.restart_pool.specs.Following.{seen}
use Rattle.restart_pool.proofs.Walking.{walk-begin, walk-next, walk-done, walk-falls}
use Rattle.restart_pool.proofs.chain.add_longer.Goals as goal

pub places-init : goal.places-init
places-init c = walk-begin (seen c.args.lane.now) c.args.way.now c.args.lane.now.index.now c.args.longer.now.items c.last-next.result c.requires.indexed c.last-next.ensures

pub places-preserved : goal.places-preserved
places-preserved c =
    walk-next (seen c.args.lane.now) c.args.way.now c.args.lane.now.index.now c.args.longer.now.items c.places.longer.items c.add_one.new.longer.items c.places.next c.in-Some.place
    (option_copied c.places.tried) (option_copied c.in_ok-tried.tried) c.before-next.result c.requires.indexed c.places.invariant c.in-Some.is (λ rec get. c.in_ok-tried.ensures rec get) c.before-next.ensures

pub places-smaller : goal.places-smaller
places-smaller c = walk-falls c.args.lane.now.index.now c.in-Some.place _ c.before-next.result c.places.next c.before-next.ensures c.in-Some.is

pub returns : goal.returns
returns c =
    let none : c.places.next ≡ None = search rules in
    walk-done (seen c.args.lane.now) c.args.way.now c.args.longer.now.items c.places.longer.items (option_copied c.places.tried) c.places.next none c.places.invariant
