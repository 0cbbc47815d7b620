use Rattle.std.proofs.Common.{◌/◌, ◌∙◌, sym, ap}
use Rattle.std.proofs.lemmas.Nat.{shr-shr}
use Rattle.merkle_region.proofs.Climbing.{climb-more, climb-all}
use Rattle.merkle_pruned.proofs.node.climbed.Goals as goal

pub siblings-preserved : goal.siblings-preserved
siblings-preserved c =
    let step = climb-more c.siblings.place c.siblings.reached c.args.siblings.now c.siblings.sibling-index c.sibling-item.result c.siblings-test.true in
    let up = shr-shr c.args.i c.siblings.sibling-index 1 in
    (ap (λ n. n / 2) c.siblings.invariant.0 ∙ up, cc)

pub returns-clause-digest : goal.returns-clause-digest
returns-clause-digest c =
    sym (climb-all c.siblings.place c.siblings.reached c.args.siblings.now c.siblings.sibling-index c.siblings-test.false)
    ∙ c.siblings.invariant.1
