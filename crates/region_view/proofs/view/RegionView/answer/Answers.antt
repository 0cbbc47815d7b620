use Rattle.std.proofs.Common.{◌≡◌, ◌∙◌, [], length, ap, sym}
use Rattle.std.proofs.lemmas.Option.{get_or_from_slice_get}
use Rattle.merkle_region.specs.Tree.{block_at}
use Rattle.region_view.proofs.Shaping.{shape-parts, sized-at}
use Rattle.region_view.proofs.view.RegionView.answer.Goals as goal

pub returns-clause-size : goal.returns-clause-size
returns-clause-size c =
    let size = sized-at c.self.inside.geometry c.self.inside.tree.blocks (shape-parts c.self.inside.geometry c.self.inside.tree.blocks c.self.invariant.blocks) c.args.place c.block.result.now c.block.ensures in
    rw (← c.self.view_is) (ap length c.in_ok-try_clone.ensures ∙ size)

pub returns-clause-verifies : goal.returns-clause-verifies
returns-clause-verifies c =
    let bytes : c.in_ok-try_clone.field-0 ≡ block_at c.self.inside.tree.blocks c.args.place
    = c.in_ok-try_clone.ensures ∙ sym (get_or_from_slice_get c.self.inside.tree.blocks c.args.place c.block.result.now [] c.block.ensures) in
    rw (← c.self.view_is, bytes, ← c.self.invariant.height) c.in_ok-path.ensures.verifies
