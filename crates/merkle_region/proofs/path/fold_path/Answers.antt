use Rattle.std.proofs.Common.{◌∙◌, sym}
use Rattle.merkle_region.proofs.Climbing.{climb-more, climb-all}
use Rattle.merkle_region.proofs.path.fold_path.Goals as goal

pub siblings-preserved : goal.siblings-preserved
siblings-preserved c =
    let step = climb-more c.siblings.place c.siblings.digest c.as_slice-sibling-items.result.now c.siblings.sibling-index c.sibling-item.result
    c.siblings-test.true in
    cc

pub returns : goal.returns
returns c =
    sym (climb-all c.siblings.place c.siblings.digest c.as_slice-sibling-items.result.now c.siblings.sibling-index c.siblings-test.false)
    ∙ c.siblings.invariant
