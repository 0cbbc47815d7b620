-- What holds of a run's steps so far, by the messages of the whole run.
use Rattle.std.specs.Prelude.{◌≡◌, List, [], ◌∷◌, ◌++◌}
use Rattle.salus_types.specs.declared.names.NodeName.{NodeName}
use Rattle.schedule_text.specs.declared.schedule.Volume.{Volume}
use Rattle.printed_lines.specs.declared.line.Line.{Line}
use Rattle.salus_model.specs.declared.trace.TraceStep.{TraceStep}
use Rattle.salus_model.specs.Following.{Posted}
use Rattle.client_rules.specs.State.{Client}
use Rattle.run_rules.specs.Knowing.{KnownNode, fresh}
use Rattle.run_rules.specs.Running.{known_of, NodesByRules}
use Rattle.run_rules.specs.Run.{First}
use Rattle.run_course.specs.Course.{Course}
use Rattle.client_premises.specs.Behind.{Behind, ClientStepsBehind, LinesBehind}

-- the messages that were sent so far are the first of the run's
pub record IsFront (sent posts : List Posted) : Type 0 where
  pub more : List Posted
  pub whole : posts ≡ sent ++ more

-- what is known of a node after these steps, by what it held at first
abbrev pub known_at : First → Volume → List Posted → List TraceStep → NodeName → KnownNode
known_at first volume posts trace name = known_of volume.geometry posts name (fresh volume.geometry name.region (first.held name)) trace

-- P holds of the client after these steps, behind their premises
abbrev pub OfClient : First → Volume → List Posted → List TraceStep → (Client → Type 0) → Type 0
OfClient first volume posts trace P = Behind volume posts first.client trace P

-- each node goes by its rules, and so does the client behind its premises, with these lines
pub record AreMade (first : First) (volume : Volume) (posts : List Posted) (trace : List TraceStep) (told : List (List Line)) : Type 0 where
  pub nodes : NodesByRules volume.geometry first.held posts trace
  pub client : ClientStepsBehind volume posts first.client 0 trace
  pub lines : LinesBehind volume posts first.client trace told

-- the course with one step more, which gave these lines
abbrev pub with_step : Course → TraceStep → List Line → Course
with_step was step said = record { trace = was.trace ++ step ∷ []; dropped = was.dropped; told = was.told ++ said ∷ []; lines = was.lines ++ said }
