-- What a client's letters are: parts have writes, bases have none, and it gathers and switches only in its own phase.
use Rattle.std.specs.Prelude.{◌≡◌, ℕ, true, [], flat_map, None}
use Rattle.std.specs.List.{AllByRecursion}
use Rattle.salus_types.specs.declared.records.Record.{Record}
use Rattle.salus_message.specs.declared.wire.Message.{Message}
use Rattle.salus_message.specs.declared.wire.Message.TheVariants as message
use Rattle.holding_model.specs.Fitting.{has_content}
use Rattle.client_rules.specs.State.{Client, Closed, Serves, Gathers, Fetches, Stages, Switches, Told}

abbrev pub IsSwitchingTo : ℕ → Client → Type 0
IsSwitchingTo e (Switches b) = b.session ≡ e
IsSwitchingTo e Closed = ⊥
IsSwitchingTo e (Serves c) = ⊥
IsSwitchingTo e (Gathers g) = ⊥
IsSwitchingTo e (Fetches f) = ⊥
IsSwitchingTo e (Stages b) = ⊥

abbrev pub IsGatheringFor : ℕ → Client → Type 0
IsGatheringFor e (Gathers g) = g.session ≡ e
IsGatheringFor e Closed = ⊥
IsGatheringFor e (Serves c) = ⊥
IsGatheringFor e (Fetches f) = ⊥
IsGatheringFor e (Stages b) = ⊥
IsGatheringFor e (Switches b) = ⊥

abbrev pub HasWrites : Record → Type 0
HasWrites rec = has_content rec.writes rec.run ≡ true

abbrev pub HasNone : Record → Type 0
HasNone rec = (rec.writes ≡ []) × (rec.run ≡ None)

-- a message that the client sends when it is left as that
abbrev pub IsOfClient : Client → Message → Type 0
IsOfClient c (message.Part m) = HasWrites m.rec
IsOfClient c (message.Stage m) = HasNone m.base.rec
IsOfClient c (message.Switch m) = IsSwitchingTo m.session c
IsOfClient c (message.Gather m) = IsGatheringFor m.session c
IsOfClient c other = Unit {0}

-- a base that is staged
abbrev pub IsStageLetter : Message → Type 0
IsStageLetter (message.Stage m) = HasNone m.base.rec
IsStageLetter other = ⊥

-- what it keeps to send it again
abbrev pub KeepsLetters : Client → Type 0
KeepsLetters (Serves c) = AllByRecursion HasWrites (flat_map (λ u. u.parts) c.unacked)
KeepsLetters (Stages b) = AllByRecursion (λ l. IsStageLetter l.message) b.bases
KeepsLetters Closed = Unit {0}
KeepsLetters (Gathers g) = Unit {0}
KeepsLetters (Fetches f) = Unit {0}
KeepsLetters (Switches b) = Unit {0}

pub record TellsLetters (told : Told) : Type 0 where
  pub keeps : KeepsLetters told.client
  pub sends : AllByRecursion (λ l. IsOfClient told.client l.message) told.outs
