-- What stands at the head of the waiting line.
use Rattle.std.specs.Prelude.{Bool, false, List, [], ◌∷◌}
use Rattle.salus_model.specs.Waiting.{Taken, is_write}

-- a write, behind which all others wait
abbrev pub is_held_up : List Taken → Bool
is_held_up [] = false
is_held_up (t ∷ line) = is_write t.request
