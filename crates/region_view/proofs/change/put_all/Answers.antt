use Rattle.std.proofs.Common.{◌≡◌, ◌∙◌, ◌^◌, ◌<◌, length, get_or, ap, refl, arith}
use Rattle.region_view.specs.Changes.{AreWithin}
use Rattle.region_view.proofs.Putting.{put-none, put-more, put-left, put-back, same_within}
use Rattle.region_view.proofs.change.put_all.Goals as goal

pub changes-init : goal.changes-init
changes-init c = record { height = refl; put = put-none c.args.tree.now.blocks c.args.changes.now }

pub put-requires : goal.put-requires
put-requires c =
    let long : length c.changes.changes ≡ length c.args.changes.now = c.changes.auto.changes in
    let within : AreWithin (2 ^ c.args.tree.now.height) c.changes.changes
    = same_within c.args.changes.now c.changes.changes (2 ^ c.args.tree.now.height) c.changes.invariant.put.places long c.requires in
    rw c.changes.invariant.height (within c.changes.change-index c.change-item.result (omega arith))

pub changes-preserved : goal.changes-preserved
changes-preserved c =
    let within : c.changes.change-index < length c.changes.changes = omega (arith, c.changes.auto.changes) in
    let x = get_or c.changes.changes c.changes.change-index c.change-item.result in
    let more = put-more c.args.tree.now.blocks c.args.changes.now c.changes.tree.blocks c.changes.changes c.changes.change-index c.changes.invariant.put
    x c.put.new.change within (ap (λ d. get_or c.changes.changes c.changes.change-index d) c.change-item.is) c.put.ensures.change in
    record { height = c.put.ensures.height ∙ c.changes.invariant.height; put = rw c.put.ensures.blocks more }

pub returns-clause-blocks : goal.returns-clause-blocks
returns-clause-blocks c =
    put-left c.args.tree.now.blocks c.args.changes.now c.changes.tree.blocks c.changes.changes c.changes.change-index c.changes.invariant.put
    (omega (arith, c.changes.auto.changes))

pub returns-clause-places : goal.returns-clause-places
returns-clause-places c =
    rw c.changes.invariant.height
    (same_within c.args.changes.now c.changes.changes (2 ^ c.args.tree.now.height) c.changes.invariant.put.places c.changes.auto.changes c.requires)

pub returns-clause-way_back : goal.returns-clause-way_back
returns-clause-way_back c =
    put-back c.args.tree.now.blocks c.args.changes.now c.changes.tree.blocks c.changes.changes c.changes.change-index c.changes.invariant.put
    (omega (arith, c.changes.auto.changes))
