use Rattle.std.proofs.Common.{◌∙◌, ◌+◌, ◌<◌, ◌++◌, map, take, sym, ap, subst}
use Rattle.std.specs.Prelude.{filter}
use Rattle.std.proofs.lemmas.List.{take_all}
use Rattle.salus_types.specs.Volume.{regions}
use Rattle.posting.specs.Letters.{out_of_letter}
use Rattle.volume_restart.specs.Restarting.{shape_of}
use Rattle.session_opening.specs.Answered.{is_waited_for}
use Rattle.session_opening.specs.Basing.{all_letters, base_letters, carried_by, IsLoaded}
use Rattle.session_opening.proofs.Beginnings.{base_at, bases_more, taken_more}
use Rattle.session_opening.proofs.beginning.post_bases.Goals as goal

pub of_region-blocks-requires-clause-region : goal.of_region-blocks-requires-clause-region
of_region-blocks-requires-clause-region c =
    let r = c.args.progress.now in
    subst (λ s. c.rec-item.result.header.region < regions s) (sym c.geometry-geometry.ensures) (base_at (shape_of r) c.args.records.now c.records.rec-index c.rec-item.result c.requires.records c.records-test.true c.rec-item.is).within

pub of_region-blocks-requires-clause-loaded : goal.of_region-blocks-requires-clause-loaded
of_region-blocks-requires-clause-loaded c = subst (λ s. IsLoaded s c.args.carried.now) (sym c.geometry-geometry.ensures) c.requires.loaded

pub post_base-requires-clause-rec : goal.post_base-requires-clause-rec
post_base-requires-clause-rec c = (base_at (shape_of c.args.progress.now) c.args.records.now c.records.rec-index c.rec-item.result c.requires.records c.records-test.true c.rec-item.is).spelled

pub post_base-requires-clause-region : goal.post_base-requires-clause-region
post_base-requires-clause-region c = (base_at (shape_of c.args.progress.now) c.args.records.now c.records.rec-index c.rec-item.result c.requires.records c.records-test.true c.rec-item.is).within

pub records-preserved : goal.records-preserved
records-preserved c =
    let r = c.args.progress.now in
    let rec = c.rec-item.result in
    let load = c.args.carried.now in
    bases_more (shape_of r) load (λ l. is_waited_for r l.to) (take c.records.rec-index c.args.records.now) (take (c.records.rec-index + 1) c.args.records.now) rec _ _ _
    (taken_more c.args.records.now c.records.rec-index rec c.records-test.true c.rec-item.is) c.records.invariant
    (c.in_ok-post_base.ensures
    ∙ ap (λ b. c.records.outs.items ++ map out_of_letter (filter (λ l. is_waited_for r l.to) (base_letters (shape_of r) rec b)))
    (c.of_region-blocks.ensures.value ∙ ap (λ s. carried_by s load rec.header.region) c.geometry-geometry.ensures))

pub returns : goal.returns
returns c =
    let r = c.args.progress.now in
    c.records.invariant
    ∙ ap (λ rs. c.args.outs.now.items ++ map out_of_letter (filter (λ l. is_waited_for r l.to) (all_letters (shape_of r) c.args.carried.now rs))) (take_all c.records.rec-index c.args.records.now c.records-test.false)
