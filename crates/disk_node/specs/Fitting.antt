-- A node over a disk is as it is known to be from its own steps.
use Rattle.std.specs.Prelude.{◌≡◌, ℕ, List, ◌++◌, ◌∷◌, true, false, [], map, option_map, Option, None, Some, IfSome, IsTrue}
use Rattle.std.specs.Option.{option_map_or}
use Rattle.salus_types.specs.Volume.{Shape}
use Rattle.salus_types.specs.declared.names.NodeName.{NodeName}
use Rattle.salus_types.specs.declared.records.Held.{Held}
use Rattle.disk_model.specs.declared.memory.MemDisk.{MemDisk}
use Rattle.disk_model.specs.Disk.{History, Through}
use Rattle.disk_model.specs.Memory.{crash_image}
use Rattle.disk_model.specs.Told.{now_of}
use Rattle.datanode_store.specs.Live.{MeansLive, MeansOneLive}
use Rattle.holding_model.specs.Holding.{nothing_held}
use Rattle.merkle_region.specs.Tree.{IsAmong}
use Rattle.replica_rules.specs.Rules.{Input}
use Rattle.run_rules.specs.Knowing.{KnownNode, fresh, after_input, outs_of, during}
use Rattle.posting.specs.Sendings.{out_of_sending}
use Rattle.disk_node.specs.declared.outcome.Outcome.{Outcome}
use Rattle.disk_node.specs.declared.node.DiskNode.{DiskNode}
use Rattle.replica_node.specs.Standing.{history_of}
use Rattle.disk_node.specs.Knowing.{Seen, seen_of, FitsSeen}

-- what is seen of it, where it is there
abbrev pub seen_in : {D : _} {g : _} {lane : _} → DiskNode D g lane → Option Seen
seen_in node = option_map (λ n. seen_of n) node.node

-- there is a node, and it is so
abbrev pub FitsIn : Shape → NodeName → KnownNode → Option Seen → Type 0
FitsIn shape name known None = ⊥
FitsIn shape name known (Some node) = FitsSeen shape name known node

pub record Fits {D : _} {g : _} {lane : _} (shape : Shape) (name : NodeName) (known : KnownNode) (node : DiskNode D g lane) : Type 0 where
  pub shape_is : node.geometry ≡ shape
  pub name_is : node.name ≡ name
  pub there : FitsIn shape name known (seen_in node)

-- no call of its disk is to fail
abbrev pub IsUnharmed : {D : _} {g : _} {lane : _} → DiskNode D g lane → Type 0
IsUnharmed {g = g} node = IfSome node.node (λ n. IsTrue (g.is_sure n.checkpoint.store.log.disk.disk))

-- the moments of its disk
abbrev pub moments_in : {D : _} {g : _} {lane : _} → DiskNode D g lane → History
moments_in node = option_map_or (λ n. history_of n) node.node []

-- how often a call of its disk has failed
abbrev pub faults_in : {D : _} {g : _} {lane : _} → DiskNode D g lane → ℕ
faults_in {g = g} node = option_map_or (λ n. g.faults n.checkpoint.store.log.disk.disk) node.node 0

-- what it holds
abbrev pub held_in : {D : _} {g : _} {lane : _} → DiskNode D g lane → Held
held_in node = option_map_or (λ n. n.checkpoint.store.held) node.node nothing_held

-- ---- calls

-- It has handled the input, and that is what the rules give. While it is silent no call of its disk fails.
pub record IsAnswered {D : _} {g : _} {lane : _} (shape : Shape) (name : NodeName) (known : KnownNode) (input : Input) (outcome : Outcome) (node : DiskNode D g lane) : Type 0 where
  pub fits : Fits shape name (after_input shape name.region known input outcome.failed) node
  pub outs : outcome.outs ≡ map out_of_sending (outs_of shape name.region known input outcome.failed)
  pub quiet : known.silent ≡ true → outcome.failed ≡ false

-- While it handled the input, at each moment each image of its disk meant one of the contents that its disk may mean then.
abbrev pub PassesOn : {D : _} {g : _} {lane : _} → Input → DiskNode D g lane → DiskNode D g lane → Type 0
PassesOn input old new = (shape : Shape) (name : NodeName) (known : KnownNode) → Fits shape name known old → Through (moments_in old) (moments_in new) (MeansOneLive (during shape name.region known input))

-- it was loaded with one of the contents that its disk may mean
pub record IsReloaded {D : _} {g : _} {lane : _} (shape : Shape) (name : NodeName) (known : KnownNode) (node : DiskNode D g lane) : Type 0 where
  pub among : IsAmong (held_in node) known.contents
  pub fits : Fits shape name (fresh shape name.region (held_in node)) node

-- it has handled the input as far as its disk went, and was loaded then
pub record IsStopped {D : _} {g : _} {lane : _} (shape : Shape) (name : NodeName) (known : KnownNode) (input : Input) (outcome : Outcome) (node : DiskNode D g lane) : Type 0 where
  pub outs : outcome.outs ≡ map out_of_sending (outs_of shape name.region known input outcome.failed)
  pub quiet : known.silent ≡ true → outcome.failed ≡ false
  pub loaded : IsReloaded shape name (after_input shape name.region known input outcome.failed) node

-- ---- what is asked of a disk in memory

-- it holds what that image of its disk means
abbrev pub IsCrashed : {g : _} {lane : _} → ℕ → ℕ → DiskNode MemDisk g lane → DiskNode MemDisk g lane → Type 0
IsCrashed keep fill old new = IfSome old.node (λ was. MeansLive (held_in new) (crash_image keep fill (now_of was.checkpoint.store.log.disk.disk)))

-- the calls that are named to fail
abbrev pub failing_in : {g : _} {lane : _} → DiskNode MemDisk g lane → List ℕ
failing_in node = option_map_or (λ n. n.checkpoint.store.log.disk.disk.failures.failing.items) node.node []

-- one more of them
abbrev pub FailsAt : {g : _} {lane : _} → ℕ → DiskNode MemDisk g lane → DiskNode MemDisk g lane → Type 0
FailsAt call old new = failing_in new ≡ failing_in old ++ call ∷ []

-- after so many further calls each call fails
abbrev pub StopsAt : {g : _} {lane : _} → ℕ → DiskNode MemDisk g lane → Type 0
StopsAt calls node = IfSome node.node (λ n. n.checkpoint.store.log.disk.disk.failures.stop ≡ Some calls)

-- The node, whose disk was to stop after so many calls, has handled the input. Then the disk crashed.
pub record IsStopping {g : _} {lane : _} (calls keep fill : ℕ) (input : Input) (outcome : Outcome) (old new : DiskNode MemDisk g lane) : Type 0 where
  pub begun : DiskNode MemDisk g lane
  pub same : (shape : Shape) (name : NodeName) (known : KnownNode) → Fits shape name known old → Fits shape name known begun
  pub stops : StopsAt calls begun
  pub mid : DiskNode MemDisk g lane
  pub answered : (shape : Shape) (name : NodeName) (known : KnownNode) → Fits shape name known begun → IsAnswered shape name known input outcome mid
  pub crashed : IsCrashed keep fill mid new
