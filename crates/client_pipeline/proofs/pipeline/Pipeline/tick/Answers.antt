use Rattle.std.specs.Prelude.{All}
use Rattle.std.proofs.lemmas.Result.{on_ok_weaker}
use Rattle.client_tag.specs.Ranges.{IsRecord}
use Rattle.client_pipeline.proofs.Posted.{all_behind, sent_twice}
use Rattle.client_pipeline.proofs.pipeline.Pipeline.tick.Goals as goal

pub post_batches-requires-2 : goal.post_batches-requires-2
post_batches-requires-2 c = all_behind (All IsRecord) c.as_slices.result.0.now c.as_slices.result.1.now c.self.inside.parts.items c.as_slices.ensures.items c.self.invariant

pub returns-clause-stands : goal.returns-clause-stands
returns-clause-stands c =
    on_ok_weaker c.post_batches-2.result
    (λ second s stands. sent_twice _ _ c.self.view_is s stands c.geometry-geometry.result c.geometry-geometry.ensures c.as_slices.result.0.now c.as_slices.result.1.now c.as_slices.ensures.items
    c.args.outs.now.items c.post_batches.new.outs.items c.post_batches-2.new.outs.items c.in_ok-post_batches.ensures second)
    c.post_batches-2.ensures
