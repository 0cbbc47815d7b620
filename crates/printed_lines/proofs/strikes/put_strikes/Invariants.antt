use Rattle.std.proofs.Common.{◌≡◌, ◌++◌, take}
use Rattle.std.specs.List.{flat_map}
use Rattle.printed_lines.specs.LineText.{replica_text}
use Rattle.printed_lines.proofs.strikes.put_strikes.Given as goal

abbrev pub invariant-strikes : goal.invariant-strikes
invariant-strikes l = l.out.items ≡ l.initial.out.items ++ flat_map replica_text (take l.strike-index l.strikes)
