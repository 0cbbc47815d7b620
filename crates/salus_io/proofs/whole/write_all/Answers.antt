use Rattle.std.proofs.Common.{◌∙◌, arith}
use Rattle.std.proofs.lemmas.Grind.{common_steps}
use Rattle.std.proofs.lemmas.List.{take_rest}
use Rattle.salus_io.proofs.Joining.{Appends-piece, StaysSure-from_listed}
use Rattle.salus_io.proofs.whole.write_all.Goals as goal

pub pieces-preserved : goal.pieces-preserved
pieces-preserved g c =
    let wrote = c.in-Ok.ensures in
    let before = c.pieces.invariant in
    record {
      within = grind (arith, common_steps);
      taken = Appends-piece _ _ _ c.args.bytes.now c.pieces.at c.in-Ok.count before.taken (rw take_rest at wrote.taken);
      counted = wrote.cause ∙ before.counted;
      sure = λ e. (StaysSure-from_listed _ _ _ wrote.listed (before.sure e)).0;
    }
