use Rattle.std.proofs.Common.{◌≡◌, ◌++◌, take}
use Rattle.std.specs.List.{flat_map}
use Rattle.printed_lines.specs.LineText.{line_text}
use Rattle.printed_lines.proofs.lines.write_lines.Given as goal

abbrev pub invariant-lines : goal.invariant-lines
invariant-lines l = l.out.items ≡ l.initial.out.items ++ flat_map line_text (take l.line-index l.line-items)
