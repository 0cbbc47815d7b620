use Rattle.region_view.proofs.Shaping.{shape-parts, sized-at}
use Rattle.region_view.proofs.view.RegionView.block.Goals as goal

pub returns-clause-size : goal.returns-clause-size
returns-clause-size c =
    rw (← c.self.view_is)
    (sized-at c.self.inside.geometry c.self.inside.tree.blocks (shape-parts c.self.inside.geometry c.self.inside.tree.blocks c.self.invariant.blocks) c.args.place c.block.result.now c.block.ensures)
