use Rattle.std.proofs.Common.{◌≡◌, ◌≤◌, ◌<◌, ◌++◌, map}
use Rattle.std.specs.List.{AllByRecursion}
use Rattle.client_window.specs.Written.{Entry, write_of, writes_between}
use Rattle.client_window.proofs.written.writes_between.Given as goal

abbrev pub invariant-entries : goal.invariant-entries
invariant-entries l = (l.writes ++ map (write_of l.from) l.block-iterator ≡ writes_between l.from l.to l.last.entries) × AllByRecursion (λ (e : Entry). (l.from ≤ e.0) × (e.0 < l.to)) l.block-iterator
