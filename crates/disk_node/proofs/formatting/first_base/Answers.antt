use Rattle.std.proofs.Common.{ℕ, List, ◌∙◌, ap}
use Rattle.salus_types.specs.declared.records.Base.{Base}
use Rattle.disk_node.proofs.Uniform.{base_first}
use Rattle.disk_node.proofs.formatting.first_base.Goals as goal

pub returns-clause-base : goal.returns-clause-base
returns-clause-base c =
    let with_blocks : List (List ℕ) → Base = λ b. record { rec = c.in_ok-rec.rec; blocks = b } in
    ap with_blocks c.in_ok-blocks.ensures.blocks
    ∙ base_first c.args.geometry.now c.args.key.now c.args.region c.in_ok-header.header c.in_ok-rec.rec c.requires c.in_ok-header.ensures.header c.in_ok-rec.ensures.sealed

pub returns-clause-ranges : goal.returns-clause-ranges
returns-clause-ranges c = record { its_record = c.in_ok-rec.ensures.ranges; its_blocks = c.in_ok-blocks.ensures.ranges }
