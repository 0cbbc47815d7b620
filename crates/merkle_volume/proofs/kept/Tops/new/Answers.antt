use Rattle.std.proofs.Common.{◌≡◌, ◌≤◌, ◌∙◌, length, take, ap, arith}
use Rattle.std.proofs.lemmas.List.{length-take}
use Rattle.merkle_volume.proofs.Topped.{roots-kept}
use Rattle.merkle_volume.proofs.kept.Tops.new.Goals as goal

pub invariant_of-result : goal.invariant_of-result
invariant_of-result c = record { some = c.requires.some; few = c.requires.few; raised = c.raise.ensures.raised }

pub returns : goal.returns
returns c =
    let n = length c.args.roots.now in
    let before : n ≤ length c.spread-digests.result = omega (arith, ap length c.spread-digests.ensures, length-take n c.spread-digests.result) in
    let after : n ≤ length c.raise.new.digests = omega (arith, c.requires.some, c.raise.ensures.raised.room) in
    roots-kept n c.spread-digests.result c.raise.new.digests before after c.raise.ensures.roots ∙ c.spread-digests.ensures
