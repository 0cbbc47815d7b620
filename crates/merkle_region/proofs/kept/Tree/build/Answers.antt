use Rattle.std.proofs.Common.{◌≡◌, ◌<◌, ◌≤◌, ◌^◌, length, ap, arith}
use Rattle.std.proofs.Math.Pow.{pow_mono}
use Rattle.std.proofs.lemmas.Nat.{pow_pos}
use Rattle.std.proofs.lemmas.List.{length-map}
use Rattle.salus_hash.specs.Hash.{leaf}
use Rattle.merkle_region.proofs.kept.Tree.build.Goals as goal

pub leaves-requires : goal.leaves-requires
leaves-requires c =
    let most : 2 ^ c.args.height ≤ 2 ^ 12 = pow_mono c.requires.low in
    rw c.as_slice.ensures (omega (arith, c.requires.count))

pub raise-requires-clause-some : goal.raise-requires-clause-some
raise-requires-clause-some c =
    let count = ap length c.in_ok-leaves.ensures in
    let same = ap length c.as_slice.ensures in
    let some = pow_pos c.args.height in
    omega (arith, c.in_ok-leaves.field-0.ok, c.requires.count, length-map c.as_slice.result.now leaf)

pub raise-requires-clause-few : goal.raise-requires-clause-few
raise-requires-clause-few c =
    let count = ap length c.in_ok-leaves.ensures in
    let same = ap length c.as_slice.ensures in
    let most : 2 ^ c.args.height ≤ 2 ^ 12 = pow_mono c.requires.low in
    omega (arith, c.in_ok-leaves.field-0.ok, c.requires.count, length-map c.as_slice.result.now leaf)
