-- Which records the client has tagged, and the premise that no lie brings another one with its tag.
use Rattle.std.specs.Prelude.{◌≡◌, ◌⊎◌, ℕ, ◌<◌, ◌≤◌, true, List, [], ◌∷◌, ◌++◌, map, length, Some, Result, Ok, Err}
use Rattle.std.specs.List.{AllByRecursion}
use Rattle.salus_types.specs.Volume.{Shape, regions}
use Rattle.salus_types.specs.declared.records.Record.{Record}
use Rattle.salus_message.specs.declared.wire.Message.{Message}
use Rattle.salus_message.specs.declared.wire.Message.TheVariants as message
use Rattle.salus_message.specs.declared.wire.MessageError.{MessageError}
use Rattle.salus_message.specs.Reading.{message_at}
use Rattle.schedule_text.specs.declared.schedule.Volume.{Volume}
use Rattle.schedule_text.specs.declared.schedule.Event.{Event}
use Rattle.salus_model.specs.declared.trace.Handed.{Handed}
use Rattle.salus_model.specs.declared.trace.Handed.TheVariants as handed
use Rattle.salus_model.specs.declared.trace.TraceStep.{TraceStep}
use Rattle.client_tag.specs.Tags.{is_genuine}
use Rattle.volume_model.specs.Parts.{Session, touches, batch_at, part_of, base_of}
use Rattle.salus_model.specs.Judge.{Judge, known_at}
use Rattle.salus_model.specs.Following.{Posted}
use Rattle.salus_model.specs.Due.{pasts_of}

-- the record is the part of one of the session's own batches for a region that it touches
pub record IsPartOf (shape : Shape) (key : List ℕ) (known : Session) (g : ℕ) (rec : Record) : Type 0 where
  pub s : ℕ
  pub own : known.base < s
  pub within : s ≤ length known.list
  pub inside : g < regions shape
  pub touched : touches shape (batch_at known s) g ≡ true
  pub is : rec ≡ part_of shape key known s g

-- the record is the session's base record for a region
pub record IsBaseOf (shape : Shape) (key : List ℕ) (known : Session) (g : ℕ) (rec : Record) : Type 0 where
  pub inside : g < regions shape
  pub is : rec ≡ base_of shape key known g

-- a record of a known session
pub record IsTagged (shape : Shape) (key : List ℕ) (judge : Judge) (rec : Record) : Type 0 where
  pub e : ℕ
  pub session : Session
  pub known : known_at judge e ≡ Some session
  pub g : ℕ
  pub either : IsPartOf shape key session g rec ⊎ IsBaseOf shape key session g rec

-- the records within a message
abbrev pub records_in : Message → List Record
records_in (message.Part m) = m.rec ∷ []
records_in (message.Gathered m) = map (λ base. base.rec) m.held.bases ++ m.held.parts
records_in (message.Stage m) = m.base.rec ∷ []
records_in other = []

abbrev pub records_of : Result Message MessageError → List Record
records_of (Ok m) = records_in m
records_of (Err e) = []

-- those that a lie brings
abbrev pub records_told : Handed → List Record
records_told (handed.Lie from bytes) = records_of (message_at bytes)
records_told other = []

-- a genuine record was tagged before the step
abbrev pub IsUnforged : Volume → Judge → Record → Type 0
IsUnforged volume judge rec = is_genuine volume.key rec ≡ true → IsTagged volume.geometry volume.key judge rec

-- every genuine record that a lie brings was tagged before that lie
abbrev pub NoForgery : Volume → List Event → List Posted → List TraceStep → Type 0
NoForgery volume events posts trace =
    AllByRecursion (λ p. AllByRecursion (λ rec. IsUnforged volume p.before rec) (records_told p.step.handed)) (pasts_of volume events posts trace)
