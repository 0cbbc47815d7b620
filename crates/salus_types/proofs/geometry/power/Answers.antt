use Rattle.std.proofs.Common.{◌≤◌, ◌^◌, arith}
use Rattle.std.proofs.Math.Pow.{pow_mono}
use Rattle.salus_types.proofs.geometry.power.Goals as goal

pub returns-clause-bound : goal.returns-clause-bound
returns-clause-bound c = let m : 2 ^ c.args.log ≤ 2 ^ 10 = pow_mono c.requires in omega (arith, m)

pub returns-clause-few : goal.returns-clause-few
returns-clause-few c = λ h. let m : 2 ^ c.args.log ≤ 2 ^ 4 = pow_mono h in omega (arith, m)
