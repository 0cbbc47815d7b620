use Rattle.std.proofs.Common.{take}
use Rattle.std.specs.Prelude.{option_copied}
use Rattle.volume_restart.specs.Choosing.{IsNext}
use Rattle.volume_restart.proofs.choice.next_below.Given as goal

abbrev pub invariant-headers : goal.invariant-headers
invariant-headers l = IsNext (take l.header-index l.headers) (option_copied l.tried) (option_copied l.best)
