-- What is left of the head's questions, and the fault with which it ends.
use Rattle.std.specs.Prelude.{◌≡◌, ℕ, List, [], ◌∷◌, ◌++◌, Option, None, Some}
use Rattle.std.specs.Option.{option_map}
use Rattle.salus_types.specs.declared.strike.Strike.{Strike}
use Rattle.printed_lines.specs.declared.line.Line.{Line}
use Rattle.printed_lines.specs.declared.line.Line.TheVariants as line
use Rattle.salus_model.specs.Waiting.{Question}
use Rattle.client_rules.specs.State.{Open}
use Rattle.verified_read.specs.Table.{fault_at, question_at}
use Rattle.pruned_volume.specs.Trees.{KeptTrees}
use Rattle.client_asking.specs.declared.step.Step.{Step}
use Rattle.head_blocks.specs.declared.headway.Headway.{Headway}
use Rattle.head_blocks.specs.declared.headway.Headway.TheVariants as headway

-- how far the head has come where these questions are left
abbrev pub headway_of : List Open → Headway
headway_of [] = headway.Known
headway_of (o ∷ asked) = headway.Waits

-- the line of a fault at that question
abbrev pub fault_line : Option Question → Option (List (Option Strike)) → Option Line
fault_line (Some q) (Some strikes) = Some (line.Fault q.event q.block strikes)
fault_line (Some q) None = None
fault_line None strikes = None

-- where every replica is struck at the question of that number
abbrev pub fault_in : ℕ → List Open → Option Line
fault_in number asked = fault_line (option_map (λ o. o.question) (question_at number asked)) (fault_at number asked)

-- there is no fault, and all is as it was
pub record IsUnended (k l : KeptTrees) (asked left : List Open) (fault : Option Line) (before after : Step) : Type 0 where
  pub none : fault ≡ None
  pub trees : l ≡ k
  pub stay : left ≡ asked
  pub outs : after.outs.items ≡ before.outs.items
  pub lines : after.lines.items ≡ before.lines.items

-- that fault is added, and no question is left
pub record IsEnded (left : List Open) (fault : Option Line) (before after : Step) : Type 0 where
  pub line : Line
  pub found : fault ≡ Some line
  pub none : left ≡ []
  pub outs : after.outs.items ≡ before.outs.items
  pub lines : after.lines.items ≡ before.lines.items ++ line ∷ []

abbrev pub IsEnding : Headway → KeptTrees → KeptTrees → List Open → List Open → Option Line → Step → Step → Type 0
IsEnding headway.Waits k l asked left fault before after = IsUnended k l asked left fault before after
IsEnding headway.Known k l asked left fault before after = ⊥
IsEnding headway.Faulted k l asked left fault before after = IsEnded left fault before after
