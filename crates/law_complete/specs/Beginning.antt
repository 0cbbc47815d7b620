-- How a node of a run came into its session: after which steps it began, and what it has handled since.
use Rattle.std.specs.Prelude.{◌≡◌, ℕ, ◌<◌, ◌≤◌, if◌then◌else◌, List, [], ◌∷◌, ◌++◌, Option, None, Some}
use Rattle.std.specs.Option.{option_map_or}
use Rattle.salus_types.specs.declared.names.NodeName.{NodeName}
use Rattle.salus_types.specs.declared.records.Record.{Record}
use Rattle.schedule_text.specs.declared.schedule.Volume.{Volume}
use Rattle.volume_model.specs.Parts.{Session}
use Rattle.salus_model.specs.declared.trace.TraceStep.{TraceStep}
use Rattle.salus_model.specs.Following.{Posted}
use Rattle.salus_model.specs.Forgery.{IsPartOf}
use Rattle.replica_rules.specs.Leading.{new_leader}
use Rattle.replica_rules.specs.Nodes.{Memory, NodeState}
use Rattle.replica_rules.specs.Rules.{Input}
use Rattle.run_rules.specs.Knowing.{fresh, input_of}
use Rattle.run_rules.specs.Running.{addresses, known_of, formatted}
use Rattle.law_answers.specs.Turning.{IsInTurn}
use Rattle.law_reads.specs.Chained.{IsViewOf}
use Rattle.law_claimed.specs.Handling.{after_all, StaysAlong, BringOnly}
use Rattle.law_claimed.specs.Session.{IsRooted}

-- ---- what a node handles

abbrev pub input_at : List Posted → NodeName → TraceStep → Option Input
input_at posts name t = if addresses name t then input_of posts t.handed else None

abbrev pub as_list : Option Input → List Input
as_list None = []
as_list (Some input) = input ∷ []

-- the inputs that these steps hand to the node, in their order
unfoldable pub inputs_in : List Posted → NodeName → List TraceStep → List Input
inputs_in posts name [] = []
inputs_in posts name (t ∷ steps) = as_list (input_at posts name t) ++ inputs_in posts name steps

-- the node after these steps of a run from a formatted volume on
abbrev pub node_after : Volume → List Posted → NodeName → List TraceStep → NodeState
node_after volume posts name steps = (known_of volume.geometry posts name (fresh volume.geometry name.region (formatted volume name)) steps).state

-- ---- the session of a node

-- The node began the session after some of the steps, before which it had a lower one: with its replica in its turn, at the
-- number with which the session starts, and a leader with no vote, no claim and no header; with no part, and as one that has
-- claimed nothing yet. It has stayed in it since, through what it was handed; and the parts of the session and its region that
-- it was handed are the client's.
pub record HasBegun (volume : Volume) (posts : List Posted) (known : Session) (name : NodeName) (done : List TraceStep) : Type 0 where
  pub first : List TraceStep
  pub since : List TraceStep
  pub whole : done ≡ first ++ since
  pub low : (xs ys : List TraceStep) (t : TraceStep) → first ≡ xs ++ t ∷ ys → (node_after volume posts name xs).held.session < known.session
  pub before : Memory
  pub there : (node_after volume posts name first).memory ≡ Some before
  pub session : before.replica.session ≡ known.session
  pub turn : IsInTurn (IsPartOf volume.geometry volume.key known name.region) (IsViewOf volume.geometry known name.region) before.replica
  pub number : before.replica.view.number ≡ known.base
  pub leader : before.leader ≡ new_leader known.base []
  pub parts : before.parts ≡ []
  pub begun : before.begun ≡ Some known.base
  pub only : BringOnly volume.geometry name.region (IsPartOf volume.geometry volume.key known name.region) before (inputs_in posts name since)
  pub stays : StaysAlong volume.geometry name.region (node_after volume posts name first) (inputs_in posts name since)
  pub now : after_all volume.geometry name.region (node_after volume posts name first) (inputs_in posts name since) ≡ node_after volume posts name done

-- its view has reached each part of the session and its region then
abbrev pub HasReachedAll : Volume → List Posted → Session → NodeName → List TraceStep → Type 0
HasReachedAll volume posts known name done =
    (m : Memory) → (node_after volume posts name done).memory ≡ Some m → (rec : Record) → IsPartOf volume.geometry volume.key known name.region rec → rec.header.seq ≤ m.replica.view.number

-- the votes that it keeps are right then
abbrev pub AreRooted : Volume → List Posted → Session → NodeName → List TraceStep → Type 0
AreRooted volume posts known name done =
    (m : Memory) → (node_after volume posts name done).memory ≡ Some m → (other : NodeName) (x : ℕ) → IsRooted volume.geometry known other (m.leader.votes other x)

-- the front of the node's leader
abbrev pub front_at : Volume → List Posted → List TraceStep → NodeName → ℕ
front_at volume posts done name = option_map_or (λ m. m.leader.front) (node_after volume posts name done).memory 0
