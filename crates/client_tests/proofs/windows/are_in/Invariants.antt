use Rattle.std.proofs.Common.{take}
use Rattle.std.specs.Prelude.{All}
use Rattle.client_window.specs.Window.{IsWriteOf}
use Rattle.client_tests.proofs.windows.are_in.Given as goal

abbrev pub invariant-writes : goal.invariant-writes
invariant-writes l = All (IsWriteOf l.geometry) (take l.write-index l.writes)
