-- A node of the program is as it is known to be from its own steps.
use Rattle.std.specs.Prelude.{◌≡◌, ◌||◌, Bool, true, false, [], List, map, Option, Result, Ok, Err, IfOk}
use Rattle.salus_types.specs.Volume.{Shape}
use Rattle.salus_types.specs.declared.names.NodeName.{NodeName}
use Rattle.salus_types.specs.declared.records.Held.{Held}
use Rattle.salus_types.specs.declared.records.Out.{Out}
use Rattle.disk_model.specs.Disk.{History, Now, EachImage, Through}
use Rattle.datanode_store.specs.Live.{MeansLive, MeansOneLive}
use Rattle.holding_model.specs.Changing.{contents_through}
use Rattle.merkle_region.specs.Tree.{IsAmong}
use Rattle.replica_rules.specs.Nodes.{NodeState}
use Rattle.replica_rules.specs.Rules.{Input, handled}
use Rattle.run_rules.specs.Knowing.{KnownNode, fresh, after_input, outs_of}
use Rattle.posting.specs.Sendings.{out_of_sending}
use Rattle.open_session.specs.Kept.{KeptSession}
use Rattle.replica_node.specs.declared.error.NodeError.{NodeError}
use Rattle.replica_node.specs.declared.error.NodeError.TheVariants.{Device, NoMemory}
use Rattle.replica_node.specs.declared.node.ReplicaNode.{ReplicaNode}
use Rattle.replica_node.specs.Errors.{is_err}
use Rattle.replica_node.specs.Standing.{IsNode, IsHandled, history_of}
use Rattle.disk_node.specs.declared.outcome.Outcome.{Outcome}

-- what is seen of a node of the program: its volume, its name, whether it is silent, what it holds, its open session, and
-- the moments of its disk
pub record Seen : Type 0 where
  pub shape : Shape
  pub name : NodeName
  pub silent : Bool
  pub held : Held
  pub session : Option KeptSession
  pub moments : History

abbrev pub seen_of : {D : _} {g : _} {lane : _} → ReplicaNode D g lane → Seen
seen_of node = record {
  shape = node.geometry;
  name = node.name;
  silent = node.silent;
  held = node.checkpoint.store.held;
  session = node.session;
  moments = history_of node;
}

-- The node is of that volume and has that name. It is silent exactly where it is known to be, and else as its rules leave
-- it; each image of its disk means one of the contents that are known.
pub record FitsSeen (shape : Shape) (name : NodeName) (known : KnownNode) (node : Seen) : Type 0 where
  pub shape_is : node.shape ≡ shape
  pub name_is : node.name ≡ name
  pub silent_is : node.silent ≡ known.silent
  pub state : known.silent ≡ false → IsNode node.held node.session known.state
  pub images : Now node.moments (λ now. EachImage now (MeansOneLive known.contents))

-- ---- calls

-- What a handling says of the input: the rules', unless the node is silent.
pub record Hands (input : Input) (result : Result (List Out) NodeError) (old new : Seen) : Type 0 where
  pub rules : IfOk result (λ outs. (state : NodeState) → IsNode old.held old.session state → old.silent ≡ false → IsHandled new.held new.session outs (handled old.shape old.name.region state input))
  pub any_moment : (state : NodeState) → IsNode old.held old.session state → old.silent ≡ false → Through old.moments new.moments (MeansOneLive (contents_through old.shape state.held (handled old.shape old.name.region state input).changes))
  pub durable : new.silent ≡ false → Now new.moments (λ now. EachImage now (MeansLive new.held))
  pub silent : new.silent ≡ (old.silent || is_err result)
  pub quiet : old.silent ≡ true → (new ≡ old) × (result ≡ Ok [])
  pub place : (new.shape ≡ old.shape) × (new.name ≡ old.name)

-- the messages, and that no call failed; or that one did, and nothing is sent
abbrev pub Tells : Result (List Out) NodeError → Outcome → Type 0
Tells (Ok outs) outcome = (outcome.outs ≡ outs) × (outcome.failed ≡ false)
Tells (Err Device) outcome = (outcome.outs ≡ []) × (outcome.failed ≡ true)
Tells (Err NoMemory) outcome = ⊥

-- It has handled the input, and that is what the rules give. While it is silent no call of its disk fails.
pub record IsAnsweredBy (shape : Shape) (name : NodeName) (known : KnownNode) (input : Input) (outcome : Outcome) (node : Seen) : Type 0 where
  pub fits : FitsSeen shape name (after_input shape name.region known input outcome.failed) node
  pub outs : outcome.outs ≡ map out_of_sending (outs_of shape name.region known input outcome.failed)
  pub quiet : known.silent ≡ true → outcome.failed ≡ false

-- it was loaded with one of the contents that its disk may mean
pub record IsLoaded (shape : Shape) (name : NodeName) (known : KnownNode) (node : Seen) : Type 0 where
  pub among : IsAmong node.held known.contents
  pub fits : FitsSeen shape name (fresh shape name.region node.held) node
