-- How a read ends where every replica is struck at its question.
use Rattle.std.specs.Prelude.{◌≡◌, ℕ, List, [], ◌∷◌, ◌++◌, Option, None, Some}
use Rattle.salus_types.specs.declared.strike.Strike.{Strike}
use Rattle.printed_lines.specs.declared.line.Line.{Line}
use Rattle.printed_lines.specs.declared.line.Line.TheVariants as line
use Rattle.salus_model.specs.Waiting.{Question}
use Rattle.client_rules.specs.State.{Open}
use Rattle.client_rules.specs.Tables.{closed_at}
use Rattle.verified_read.specs.Table.{fault_at}

-- the line of a fault, where there is one
abbrev pub fault_lines : Question → Option (List (Option Strike)) → List Line
fault_lines q None = []
fault_lines q (Some strikes) = line.Fault q.event q.block strikes ∷ []

-- the question is closed then
abbrev pub open_after : ℕ → Option (List (Option Strike)) → List Open → List Open
open_after number None asked = asked
open_after number (Some strikes) asked = closed_at number asked

-- Of the open questions and the lines, these have become those by the faults at that question.
pub record IsFaulted (q : Question) (asked : List Open) (lines : List Line) (left : List Open) (more : List Line) : Type 0 where
  pub closed : left ≡ open_after q.number (fault_at q.number asked) asked
  pub told : more ≡ lines ++ fault_lines q (fault_at q.number asked)
