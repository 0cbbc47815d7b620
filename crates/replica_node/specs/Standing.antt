-- Which node of the rules a node of the program stands for.
use Rattle.std.specs.Prelude.{◌≡◌, Option, None, Some, List, map}
use Rattle.salus_types.specs.declared.records.Held.{Held}
use Rattle.salus_types.specs.declared.records.Out.{Out}
use Rattle.disk_model.specs.Disk.{History}
use Rattle.replica_rules.specs.Nodes.{Memory, NodeState}
use Rattle.replica_rules.specs.Rules.{Handled}
use Rattle.posting.specs.Sendings.{out_of_sending}
use Rattle.open_session.specs.Kept.{KeptSession}
use Rattle.open_session.specs.Standing.{StandsFor}
use Rattle.replica_node.specs.declared.node.ReplicaNode.{ReplicaNode}

-- the session stands for the memory, or there is neither
abbrev pub StandsIn : Option KeptSession → Option Memory → Type 0
StandsIn None None = Unit {0}
StandsIn None (Some m) = ⊥
StandsIn (Some kept) None = ⊥
StandsIn (Some kept) (Some m) = StandsFor kept m

-- it holds the same, and the session stands for the memory, or there is neither
pub record IsNode (here : Held) (session : Option KeptSession) (state : NodeState) : Type 0 where
  pub held : here ≡ state.held
  pub memory : StandsIn session state.memory

-- what the node's disk holds, and the memory that its open session stands for
abbrev pub IsIn : {D : _} {g : _} {lane : _} → ReplicaNode D g lane → NodeState → Type 0
IsIn node state = IsNode node.checkpoint.store.held node.session state

-- the moments of the node's disk
abbrev pub history_of : {D : _} {g : _} {lane : _} → ReplicaNode D g lane → History
history_of {g = g} node = g.history node.checkpoint.store.log.disk.disk

-- the node and the messages that the rules give
pub record IsHandled (here : Held) (session : Option KeptSession) (sent : List Out) (h : Handled) : Type 0 where
  pub node : IsNode here session h.node
  pub outs : sent ≡ map out_of_sending h.outs
