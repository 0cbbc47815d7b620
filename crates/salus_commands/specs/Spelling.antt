-- The command that words are, read from the left.
use Rattle.std.specs.Prelude.{ℕ, Bool, ◌&&◌, nat_le, if◌then◌else◌, List, [], ◌∷◌, Option, None, Some, codes, bytes_eq}
use Rattle.text_words.specs.Reading.{number_of}
use Rattle.salus_commands.specs.declared.words.Command.{Command}
use Rattle.salus_commands.specs.declared.words.Command.TheVariants as command

-- from 1 to 10,000
abbrev pub are_rounds : ℕ → Bool
are_rounds rounds = nat_le 1 rounds && nat_le rounds 10000

-- the command of that name, by its seed and its rounds
abbrev pub seeded : List ℕ → ℕ → ℕ → Option Command
seeded name seed rounds =
    if bytes_eq name (codes "generate") then Some (command.Generate seed rounds)
    else if bytes_eq name (codes "trial") then Some (command.Trial seed rounds) else None

-- if both are numbers, and there are rounds but not too many
abbrev pub numbered : List ℕ → Option ℕ → Option ℕ → Option Command
numbered name None rounds = None
numbered name (Some seed) None = None
numbered name (Some seed) (Some rounds) = if are_rounds rounds then seeded name seed rounds else None

abbrev pub lone : List ℕ → Option Command
lone name = if bytes_eq name (codes "replay") then Some command.Replay else None

unfoldable pub command_of : List (List ℕ) → Option Command
command_of [] = None
command_of (name ∷ []) = lone name
command_of (name ∷ seed ∷ []) = None
command_of (name ∷ seed ∷ rounds ∷ []) = numbered name (number_of seed) (number_of rounds)
command_of (name ∷ seed ∷ rounds ∷ other ∷ words) = None
