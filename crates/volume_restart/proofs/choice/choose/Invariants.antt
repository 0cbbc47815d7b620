use Rattle.std.specs.Prelude.{option_copied}
use Rattle.volume_restart.specs.Choosing.{ChoosesRight}
use Rattle.volume_restart.proofs.Chosen.{AllTried}
use Rattle.volume_restart.proofs.Falling.{left_below}
use Rattle.volume_restart.proofs.choice.choose.Given as goal

abbrev pub invariant-greatest : goal.invariant-greatest
invariant-greatest l = ChoosesRight l.pool (AllTried l.pool (option_copied l.tried))

abbrev pub decreases-greatest : goal.decreases-greatest
decreases-greatest l = left_below l.headers (option_copied l.tried)
