use Rattle.std.proofs.Common.{◌<◌, ◌≤◌, ◌-◌, ◌^◌, None, Some, nat_lt, sym, arith}
use Rattle.std.proofs.Math.Pow.{pow_mono}
use Rattle.std.proofs.lemmas.Bool.{cond-true, lt-ltb}
use Rattle.merkle_pruned.proofs.node.in_right.Goals as goal

pub returns-then-height-gt32 : goal.returns-then-height-gt32
returns-then-height-gt32 c =
    let high : 32 ≤ c.args.height - 1 = omega arith in
    let big : 2 ^ 32 ≤ 2 ^ (c.args.height - 1) = pow_mono high in
    let below : c.args.i < 2 ^ (c.args.height - 1) = omega arith in
    sym (cond-true (nat_lt c.args.i (2 ^ (c.args.height - 1))) None (Some (c.args.i - 2 ^ (c.args.height - 1))) (lt-ltb c.args.i (2 ^ (c.args.height - 1)) below))
