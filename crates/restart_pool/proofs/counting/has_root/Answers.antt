use Rattle.std.proofs.Common.{◌≡◌, ◌∙◌, true, sym}
use Rattle.holding_model.specs.Fitting.{has_shape}
use Rattle.restart_pool.proofs.Single.{shape_length}
use Rattle.restart_pool.proofs.counting.has_root.Goals as goal

pub root-requires : goal.root-requires
root-requires c =
    let is : has_shape c.args.geometry.now c.as_slice-blocks.result.now ≡ true = sym c.has_shape.ensures ∙ c.if-has_shape.true in
    rw c.height.ensures.value (shape_length c.args.geometry.now c.as_slice-blocks.result.now is)
