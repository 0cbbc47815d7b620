use Rattle.std.proofs.Common.{◌∙◌, ◌^◌, length, ap, sym}
use Rattle.region_view.proofs.Shaping.{IsShaped, shape-parts}
use Rattle.region_view.proofs.view.RegionView.new.Goals as goal

pub build-requires-clause-count : goal.build-requires-clause-count
build-requires-clause-count c =
    let shaped : IsShaped c.args.geometry.now c.args.base.now.blocks = shape-parts c.args.geometry.now c.args.base.now.blocks c.requires in
    ap length c.in_ok-blocks.ensures ∙ (shaped.count ∙ ap (λ h. 2 ^ h) (sym c.height.ensures.value))
