use Rattle.std.proofs.Common.{◌≡◌, ◌∙◌, ◌<◌, length, sym, ap, subst, arith}
use Rattle.std.specs.List.{AllByRecursion}
use Rattle.salus_types.specs.Volume.{blocks}
use Rattle.volume_model.specs.Parts.{blocks_of}
use Rattle.client_asking.proofs.Few.{few_blocks, blocks_within}
use Rattle.client_asking.proofs.head.ask_batch.Goals as goal

pub ask_each-requires-clause-few : goal.ask_each-requires-clause-few
ask_each-requires-clause-few c =
    let are : c.as_slice-2.result.now ≡ blocks_of c.geometry-geometry.result c.as_slice.result.now = c.as_slice-2.ensures.value ∙ c.in_ok-blocks.ensures in
    let few = few_blocks c.geometry-geometry.result c.as_slice.result.now in
    omega (arith, ap length are, ap length c.as_slice.ensures, c.requires.batch.0)

pub ask_each-requires-clause-within : goal.ask_each-requires-clause-within
ask_each-requires-clause-within c =
    let are : c.as_slice-2.result.now ≡ blocks_of c.geometry-geometry.result c.as_slice.result.now = c.as_slice-2.ensures.value ∙ c.in_ok-blocks.ensures in
    subst (λ l. AllByRecursion (λ b. b < blocks c.args.pipeline.now.window.shape) l) (sym are)
    (subst (λ s. AllByRecursion (λ b. b < blocks s) (blocks_of c.geometry-geometry.result c.as_slice.result.now)) c.geometry-geometry.ensures
    (blocks_within c.geometry-geometry.result c.as_slice.result.now))
