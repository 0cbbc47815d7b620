-- What the client's rules send keeps to the volume and to the message format.
use Rattle.std.specs.Prelude.{List}
use Rattle.std.specs.List.{AllByRecursion}
use Rattle.salus_types.specs.Volume.{Shape}
use Rattle.salus_message.specs.Ranges.{IsMessage, HasWidths}
use Rattle.schedule_text.specs.declared.schedule.Volume.{Volume}
use Rattle.schedule_text.specs.Limits.{IsOfVolume}
use Rattle.salus_model.specs.declared.trace.TraceStep.{TraceStep}
use Rattle.salus_model.specs.Following.{Posted}
use Rattle.client_rules.specs.State.{Letter}
use Rattle.client_rules.specs.Rules.{new_client, client_letters}

-- to a node of the volume, with counts and lengths in their ranges and each number in its width
pub record IsSentWithin (shape : Shape) (letter : Letter) : Type 0 where
  pub to : IsOfVolume shape letter.to
  pub counts : IsMessage letter.message
  pub widths : HasWidths letter.message

-- so each letter that the rules of the client give over the run
abbrev pub AllSentWithin : Volume → List Posted → List TraceStep → Type 0
AllSentWithin volume posts trace = AllByRecursion (IsSentWithin volume.geometry) (client_letters volume posts (new_client volume.geometry) trace)
