-- The premise on what nodes show: each genuine record was tagged by the client before.
use Rattle.std.specs.Prelude.{List, []}
use Rattle.std.specs.List.{AllByRecursion}
use Rattle.salus_types.specs.declared.records.Record.{Record}
use Rattle.salus_message.specs.declared.wire.Message.TheVariants as message
use Rattle.schedule_text.specs.declared.schedule.Volume.{Volume}
use Rattle.schedule_text.specs.declared.schedule.Event.{Event}
use Rattle.salus_model.specs.declared.trace.TraceStep.{TraceStep}
use Rattle.salus_model.specs.Following.{Posted}
use Rattle.salus_model.specs.Hearing.{News, Says}
use Rattle.salus_model.specs.Due.{pasts_of}
use Rattle.salus_model.specs.Forgery.{records_in, IsUnforged}

-- the records that a node shows the client as held
abbrev pub records_shown : News → List Record
records_shown (Says name (message.Gathered m)) = records_in (message.Gathered m)
records_shown other = []

-- each genuine record that a node shows the client was tagged before that step
abbrev pub HeldWasTagged : Volume → List Event → List Posted → List TraceStep → Type 0
HeldWasTagged volume events posts trace =
    AllByRecursion (λ p. AllByRecursion (λ rec. IsUnforged volume p.before rec) (records_shown p.news)) (pasts_of volume events posts trace)
