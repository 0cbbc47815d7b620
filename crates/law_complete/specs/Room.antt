-- Room: a server keeps at most so many parts until their turn, and none that comes is one too many.
use Rattle.std.specs.Prelude.{◌≡◌, false, List, ◌∷◌, ◌++◌, reverse}
use Rattle.salus_types.specs.declared.names.NodeName.{NodeName}
use Rattle.salus_types.specs.declared.names.Sender.TheVariants as sender
use Rattle.schedule_text.specs.declared.schedule.Volume.{Volume}
use Rattle.salus_model.specs.declared.trace.TraceStep.{TraceStep}
use Rattle.salus_model.specs.Following.{Posted}
use Rattle.run_rules.specs.Rooms.{rooms_of}
use Rattle.run_rules.specs.Running.{formatted}

-- each step that addresses the node finds room for the part that it hands over, if it hands one over
abbrev pub AlwaysHasRoom : Volume → List Posted → List TraceStep → NodeName → Type 0
AlwaysHasRoom volume posts trace name =
    (done rest : List TraceStep) (t : TraceStep) → trace ≡ done ++ t ∷ rest → t.party ≡ sender.Node name
    → rooms_of volume.geometry posts (formatted volume) (reverse done) t ≡ false
