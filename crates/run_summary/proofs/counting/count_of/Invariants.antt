use Rattle.std.proofs.Common.{◌≡◌, ◌≤◌, length, take}
use Rattle.std.specs.Prelude.{filter}
use Rattle.run_summary.specs.Counting.{is_of}
use Rattle.run_summary.proofs.counting.count_of.Given as goal

abbrev pub invariant-lines : goal.invariant-lines
invariant-lines l = record {
  counted : l.count ≡ length (filter (is_of l.fn.kind) (take l.line-index l.line-items));
  few : l.count ≤ l.line-index;
}
