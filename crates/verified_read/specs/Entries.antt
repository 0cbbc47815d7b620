-- What the entries of the map mean.
use Rattle.std.specs.Prelude.{ℕ, ◌==◌, if◌then◌else◌, List, map}
use Rattle.salus_types.specs.declared.strike.Strike.{Strike}
use Rattle.client_rules.specs.State.{Open}
use Rattle.client_rules.specs.Tables.{struck_from}
use Rattle.verified_read.specs.declared.asked.Asked.{Asked}

-- an entry is a question under its number
abbrev pub open_of : ℕ × Asked → Open
open_of e = record { question = record { event = e.1.event; number = e.0; block = e.1.block }; strikes = e.1.strikes }

abbrev pub open_in : List (ℕ × Asked) → List Open
open_in entries = map open_of entries

-- with one strike more, where the entry is for that block
abbrev pub struck_entry : ℕ → ℕ → Strike → Asked → Asked
struck_entry block by s v = if block == v.block then record v { strikes = struck_from 0 by s v.strikes } else v
