-- What a plan of the program says.
use Rattle.std.specs.Prelude.{◌≡◌, ℕ, List, [], ◌∷◌, map, Option, None, Some}
use Rattle.salus_types.specs.Volume.{Shape}
use Rattle.salus_types.specs.declared.records.Held.{Held}
use Rattle.salus_types.specs.declared.records.Out.{Out}
use Rattle.holding_model.specs.Changing.{Change, AddsBase, SwitchesTo, after_changes}
use Rattle.node_storage.specs.Storing.{AreStorable}
use Rattle.replica_rules.specs.Nodes.{Memory, NodeState}
use Rattle.replica_rules.specs.Rules.{Plan}
use Rattle.posting.specs.Sendings.{out_of_sending}
use Rattle.open_session.specs.declared.turn.Turn.{Turn}
use Rattle.open_session.specs.Kept.{KeptSession}
use Rattle.open_session.specs.Turning.{changes_in}
use Rattle.replica_node.specs.declared.planned.Planned.{Planned}
use Rattle.replica_node.specs.declared.planned.Planned.TheVariants as planned
use Rattle.replica_node.specs.Standing.{StandsIn}
use Rattle.replica_node.specs.Serving.{Serves}

-- its messages
abbrev pub outs_by : Planned → List Out
outs_by (planned.Told outs) = outs
outs_by (planned.Turned turn) = turn.outs
outs_by (planned.Staged base outs) = outs
outs_by (planned.Switched session outs) = outs

abbrev pub turn_changes : Option KeptSession → Turn → List Change
turn_changes None turn = []
turn_changes (Some kept) turn = changes_in kept turn

-- what it changes, with the session as it is after it
abbrev pub changes_by : Option KeptSession → Planned → List Change
changes_by session (planned.Told outs) = []
changes_by session (planned.Turned turn) = turn_changes session turn
changes_by session (planned.Staged base outs) = AddsBase base ∷ []
changes_by session (planned.Switched e outs) = SwitchesTo e ∷ []

-- memory, messages and changes are those of the rules' plan
pub record IsPlan (session : Option KeptSession) (made : Planned) (plan : Plan) : Type 0 where
  pub memory : StandsIn session plan.memory
  pub outs : outs_by made ≡ map out_of_sending plan.outs
  pub changes : changes_by session made ≡ plan.changes

-- the changes can be stored, and the session serves what is held then
pub record IsReady (shape : Shape) (g : ℕ) (here : Held) (session : Option KeptSession) (changes : List Change) : Type 0 where
  pub each : AreStorable shape here changes
  pub after : Serves shape g (after_changes shape here changes) session

-- a node that holds that
abbrev pub node_with : Held → Option Memory → NodeState
node_with held memory = record { held = held; memory = memory }

-- Whatever memory the session stood for, the plan is that of the rule; and its changes can be stored.
pub record IsPlanned (shape : Shape) (g : ℕ) (here : Held) (old new : Option KeptSession) (rule : NodeState → Plan) (made : Planned) : Type 0 where
  pub plan : (memory : Option Memory) → StandsIn old memory → IsPlan new made (rule (node_with here memory))
  pub ready : IsReady shape g here new (changes_by new made)
