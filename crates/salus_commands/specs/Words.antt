-- Which words are which command.
use Rattle.std.specs.Prelude.{◌≡◌, ℕ, ◌≤◌, List, [], ◌∷◌, codes}
use Rattle.text_words.specs.Grammar.{IsNumber}
use Rattle.salus_commands.specs.declared.words.Command.{Command}
use Rattle.salus_commands.specs.declared.words.Command.TheVariants as command

-- a number of rounds, from 1 to 10,000
pub record IsRounds (word : List ℕ) (rounds : ℕ) : Type 0 where
  pub number : IsNumber word rounds
  pub some : 1 ≤ rounds
  pub few : rounds ≤ 10000

-- a name with a seed and a number of rounds behind it
pub record IsSeeded (words : List (List ℕ)) (name : List ℕ) (seed rounds : ℕ) : Type 0 where
  pub first : List ℕ
  pub second : List ℕ
  pub are : words ≡ name ∷ first ∷ second ∷ []
  pub is_seed : IsNumber first seed
  pub is_rounds : IsRounds second rounds

-- the words are that command's, exactly
abbrev pub IsCommand : List (List ℕ) → Command → Type 0
IsCommand words command.Replay = words ≡ codes "replay" ∷ []
IsCommand words (command.Generate seed rounds) = IsSeeded words (codes "generate") seed rounds
IsCommand words (command.Trial seed rounds) = IsSeeded words (codes "trial") seed rounds

-- the words are those of a command
abbrev pub AreWords : List (List ℕ) → Type 0
AreWords words = (c : Command) × IsCommand words c
