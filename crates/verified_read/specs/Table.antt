-- A table of open questions.
use Rattle.std.specs.Prelude.{◌≡◌, ℕ, ◌==◌, ◌&&◌, nat_eq, if◌then◌else◌, List, map, length, find, Option, None, Some}
use Rattle.std.specs.List.{AllByRecursion, IsDistinct}
use Rattle.std.specs.Option.{option_and_then}
use Rattle.salus_types.specs.Volume.{Shape}
use Rattle.salus_types.specs.declared.strike.Strike.{Strike}
use Rattle.salus_model.specs.Waiting.{Question}
use Rattle.salus_model.specs.Answering.{all_struck}
use Rattle.client_rules.specs.State.{Open}

-- the shape of the volume, and the open questions in the order of asking
pub record Table : Type 0 where
  pub shape : Shape
  pub asked : List Open

-- the questions alone
abbrev pub questions_in : List Open → List Question
questions_in asked = map (λ o. o.question) asked

-- no two questions have one number
abbrev pub HaveOwnNumbers : List Open → Type 0
HaveOwnNumbers asked = IsDistinct nat_eq (map (λ o. o.question.number) asked)

-- each question has a place for the first strike of each replica
abbrev pub HavePlaces : Shape → List Open → Type 0
HavePlaces shape asked = AllByRecursion (λ o. length o.strikes ≡ shape.replicas) asked

-- the question of that number
abbrev pub question_at : ℕ → List Open → Option Open
question_at number asked = find (λ o. number == o.question.number) asked

-- the strikes against a question, where every replica of the group is struck
abbrev pub fault_of : List (Option Strike) → Option (List (Option Strike))
fault_of strikes = if all_struck strikes then Some strikes else None

-- those against the question of that number
abbrev pub fault_at : ℕ → List Open → Option (List (Option Strike))
fault_at number asked = option_and_then (λ o. fault_of o.strikes) (question_at number asked)
