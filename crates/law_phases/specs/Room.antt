-- A client that serves has room for the batches that wait in line: with those that aren't acknowledged they are at most 16.
use Rattle.std.specs.Prelude.{◌≡◌, ℕ, ◌+◌, ◌<◌, ◌≤◌, true, List, [], ◌∷◌}
use Rattle.printed_lines.specs.declared.line.Line.TheVariants as line
use Rattle.merkle_region.specs.Tree.{IsAmong}
use Rattle.salus_model.specs.Waiting.{Taken, is_write, writes_among}
use Rattle.client_rules.specs.State.{Serving, Client, Closed, Serves, Gathers, Fetches, Stages, Switches, Told}

-- where the line isn't empty a write stands at its head
abbrev pub IsHeaded : List Taken → Type 0
IsHeaded [] = Unit {0}
IsHeaded (r ∷ requests) = is_write r.request ≡ true

pub record HasRoom (c : Serving) : Type 0 where
  pub room : c.last + writes_among c.line ≤ c.acked + 16
  pub headed : IsHeaded c.line

-- so of a client that serves
abbrev pub Roomy : Client → Type 0
Roomy (Serves c) = HasRoom c
Roomy Closed = Unit {0}
Roomy (Gathers g) = Unit {0}
Roomy (Fetches f) = Unit {0}
Roomy (Stages b) = Unit {0}
Roomy (Switches b) = Unit {0}

-- there was room for one batch more
abbrev pub HadRoom : Client → Type 0
HadRoom (Serves c) = c.last < c.acked + 16
HadRoom Closed = ⊥
HadRoom (Gathers g) = ⊥
HadRoom (Fetches f) = ⊥
HadRoom (Stages b) = ⊥
HadRoom (Switches b) = ⊥

-- the client has room after the step, and submits a batch only where there was room
pub record TellsRoomy (c : Client) (told : Told) : Type 0 where
  pub client : Roomy told.client
  pub lines : (u s : ℕ) → IsAmong (line.Submit u s) told.lines → HadRoom c
