-- What a plan of the program says by a rule that leaves the memory as it is.
use Rattle.std.specs.Prelude.{◌≡◌, ◌<◌, ℕ, map, length, Option}
use Rattle.client_tag.specs.Ranges.{IsBase}
use Rattle.replica_rules.specs.Nodes.{NodeState}
use Rattle.replica_rules.specs.Rules.{Plan}
use Rattle.posting.specs.Sendings.{out_of_sending}
use Rattle.open_session.specs.Kept.{KeptSession}
use Rattle.replica_node.specs.declared.planned.Planned.{Planned}
use Rattle.replica_node.specs.declared.planned.Planned.TheVariants as planned
use Rattle.replica_node.specs.Planning.{outs_by, changes_by}

-- the same memory, and the plan's messages and changes
pub record Says (node : NodeState) (made : Planned) (plan : Plan) : Type 0 where
  pub memory : plan.memory ≡ node.memory
  pub outs : outs_by made ≡ map out_of_sending plan.outs
  pub changes : (session : Option KeptSession) → changes_by session made ≡ plan.changes

-- if a base is stored, it can be, and it is of a session above that one; nothing else is stored
abbrev pub StagesAbove : ℕ → Planned → Type 0
StagesAbove low (planned.Told outs) = Unit {0}
StagesAbove low (planned.Turned turn) = ⊥
StagesAbove low (planned.Staged base outs) = IsBase base × (0 < length base.blocks) × (low < base.rec.header.session)
StagesAbove low (planned.Switched session outs) = ⊥
