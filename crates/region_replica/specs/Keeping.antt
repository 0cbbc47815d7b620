-- What a replica keeps: early parts, and asks.
use Rattle.std.specs.Prelude.{◌≡◌, ◌<◌, ◌≤◌, false, List, [], ◌∷◌, length}
use Rattle.std.specs.List.{AllByRecursion}
use Rattle.salus_types.specs.declared.records.Record.{Record}
use Rattle.salus_message.specs.declared.small.Ask.{Ask}
use Rattle.replica_rules.specs.Replicas.{has_early}

-- of one previous number there is at most one
unfoldable pub IsApart : List Record → Type 0
IsApart [] = Unit {0}
IsApart (rec ∷ parts) = (has_early parts rec.header.previous ≡ false) × IsApart parts

-- at most 16 parts, each with a previous number of its own
pub record IsKept (parts : List Record) : Type 0 where
  pub few : length parts ≤ 16
  pub apart : IsApart parts

-- the read numbers rise
unfoldable pub IsRising : List Ask → Type 0
IsRising [] = Unit {0}
IsRising (ask ∷ asks) = AllByRecursion (λ other. ask.read < other.read) asks × IsRising asks
