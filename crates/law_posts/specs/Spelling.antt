-- A limit of a run that every program keeps by its types and its parsers: what the client posts has a spelling.
use Rattle.std.specs.Prelude.{List}
use Rattle.std.specs.List.{AllByRecursion}
use Rattle.salus_message.specs.declared.wire.Message.{Message}
use Rattle.salus_message.specs.Ranges.{IsMessage, HasWidths}
use Rattle.schedule_text.specs.declared.schedule.Volume.{Volume}
use Rattle.salus_model.specs.declared.trace.TraceStep.{TraceStep}
use Rattle.salus_model.specs.Following.{Posted}
use Rattle.client_rules.specs.Rules.{new_client, client_letters}

-- counts and lengths in their ranges, and each number in its width
abbrev pub IsSpellable : Message → Type 0
IsSpellable m = IsMessage m × HasWidths m

-- so each letter that the rules of the client give over the run
abbrev pub AllSpellable : Volume → List Posted → List TraceStep → Type 0
AllSpellable volume posts trace = AllByRecursion (λ l. IsSpellable l.message) (client_letters volume posts (new_client volume.geometry) trace)
