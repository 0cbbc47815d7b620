-- No line tells of a session that is lost.
use Rattle.std.specs.Prelude.{ℕ, List}
use Rattle.printed_lines.specs.declared.line.Line.{Line}
use Rattle.printed_lines.specs.declared.line.Line.TheVariants as line
use Rattle.merkle_region.specs.Tree.{IsAmong}

abbrev pub NoneIsLost : List Line → Type 0
NoneIsLost lines = (e : ℕ) → IsAmong (line.Lost e) lines → ⊥
