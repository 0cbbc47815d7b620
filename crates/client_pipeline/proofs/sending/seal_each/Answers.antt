use Rattle.std.proofs.Common.{◌∙◌, ap, arith}
use Rattle.std.specs.Prelude.{slice_set}
use Rattle.client_tag.specs.Tags.{sealed}
use Rattle.client_window.proofs.Stepped.{changed_more}
use Rattle.client_pipeline.proofs.Posted.{sealed_records}
use Rattle.client_pipeline.proofs.sending.seal_each.Goals as goal

pub parts-preserved : goal.parts-preserved
parts-preserved c =
    ap (λ rec. slice_set c.parts.parts c.parts.part-index rec) c.in_ok-seal.ensures.sealed
    ∙ changed_more (sealed c.args.key.now) c.args.parts.now c.parts.parts c.parts.part-index c.part-item.result c.parts.invariant (omega (arith, c.parts.auto.parts, c.parts-test.true))

pub returns-clause-records : goal.returns-clause-records
returns-clause-records c = sealed_records c.args.key.now c.args.parts.now c.parts.parts c.parts.part-index c.parts.invariant c.requires
