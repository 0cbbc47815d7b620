use Rattle.std.proofs.Common.{take}
use Rattle.client_window.specs.Written.{Leaves}
use Rattle.client_window.proofs.written.last_writes.Given as goal

abbrev pub invariant-writes : goal.invariant-writes
invariant-writes l = Leaves (take l.write-index l.batch) l.last.entries
