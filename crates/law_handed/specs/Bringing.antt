-- Where the records come from that a node holds.
use Rattle.std.specs.Prelude.{◌⊎◌, ℕ, List, ◌++◌, map}
use Rattle.std.specs.List.{AllByRecursion}
use Rattle.salus_types.specs.declared.names.Sender.TheVariants as sender
use Rattle.salus_types.specs.declared.records.Record.{Record}
use Rattle.salus_types.specs.declared.records.Held.{Held}
use Rattle.salus_message.specs.declared.wire.Message.{Message}
use Rattle.salus_message.specs.declared.wire.Message.TheVariants as message
use Rattle.merkle_region.specs.Tree.{IsAmong}
use Rattle.salus_model.specs.Licences.{Letter, WasHanded}

-- the record of each base, and each part
abbrev pub records_held : Held → List Record
records_held held = map (λ base. base.rec) held.bases ++ held.parts

-- the record came in the client's name, as a part or with a base
abbrev pub WasBrought : List Letter → Record → Type 0
WasBrought letters rec =
    WasHanded letters sender.Client (message.Part (record { rec = rec }))
    ⊎ ((blocks : List (List ℕ)) × WasHanded letters sender.Client (message.Stage (record { base = record { rec = rec; blocks = blocks } })))

-- or it was held at first
abbrev pub HasOrigin : Held → List Letter → Record → Type 0
HasOrigin first letters rec = IsAmong rec (records_held first) ⊎ WasBrought letters rec

-- Each record that is held then was brought, or held at first. A folded base has the record of one of its parts.
abbrev pub HeldWasHanded : Held → List Letter → Held → Type 0
HeldWasHanded first letters held = AllByRecursion (HasOrigin first letters) (records_held held)

-- so of a message that tells all that is held
abbrev pub TellsWhatWasHanded : Held → List Letter → Message → Type 0
TellsWhatWasHanded first letters (message.Gathered m) = HeldWasHanded first letters m.held
TellsWhatWasHanded first letters other = Unit {0}
