-- A run by the rules of both its parties.
use Rattle.std.specs.Prelude.{List}
use Rattle.salus_types.specs.declared.names.NodeName.{NodeName}
use Rattle.salus_types.specs.declared.records.Held.{Held}
use Rattle.schedule_text.specs.declared.schedule.Volume.{Volume}
use Rattle.salus_model.specs.declared.trace.TraceStep.{TraceStep}
use Rattle.salus_model.specs.Following.{Posted}
use Rattle.client_rules.specs.State.{Client}
use Rattle.client_rules.specs.Rules.{new_client}
use Rattle.run_rules.specs.Knowing.{KnownNode, fresh}
use Rattle.run_rules.specs.Running.{known_of, NodesByRules, formatted}
use Rattle.run_rules.specs.Serving.{client_of, ClientByRules}

-- how a run begins: what each node holds at its first load, and the client
pub record First : Type 0 where
  pub held : NodeName → Held
  pub client : Client

-- that of a formatted volume
abbrev pub formatted_first : Volume → First
formatted_first volume = record { held = formatted volume; client = new_client volume.geometry }

-- what is known after some steps: of each node, and of the client
pub record Run : Type 0 where
  pub known : NodeName → KnownNode
  pub client : Client

abbrev pub run_of : Volume → List Posted → First → List TraceStep → Run
run_of volume posts first trace = record {
  known = λ name. known_of volume.geometry posts name (fresh volume.geometry name.region (first.held name)) trace;
  client = client_of volume posts first.client trace;
}

-- Each node's messages are those that its rules give for what it is handed, and so are the client's.
pub record IsByRules (volume : Volume) (first : First) (posts : List Posted) (trace : List TraceStep) : Type 0 where
  pub nodes : NodesByRules volume.geometry first.held posts trace
  pub client : ClientByRules volume first.client posts trace
