-- The nodes of a world, region by region.
use Rattle.std.specs.Prelude.{◌≡◌, ℕ, ◌/◌, ◌%◌, Bool, true, false, is_some, List, length, slice_get, slice_set, Some}
use Rattle.std.specs.List.{AllByRecursion}
use Rattle.salus_types.specs.Volume.{Shape}
use Rattle.salus_types.specs.declared.names.NodeName.{NodeName}
use Rattle.schedule_text.specs.Limits.{IsOfVolume}
use Rattle.disk_model.specs.declared.memory.MemDisk.{MemDisk}
use Rattle.disk_model.specs.Disk.{Now}
use Rattle.datanode_log.specs.Causes.{IsCaused}
use Rattle.unanimous_certificate.specs.Kept.{node_place}
use Rattle.replica_rules.specs.Rules.{Input}
use Rattle.holding_model.specs.Holding.{nothing_held}
use Rattle.run_rules.specs.Knowing.{KnownNode, fresh}
use Rattle.run_rules.specs.Running.{formatted}
use Rattle.disk_node.specs.declared.node.DiskNode.{DiskNode}
use Rattle.disk_node.specs.declared.outcome.Outcome.{Outcome}
use Rattle.disk_node.specs.Fitting.{Fits, IsUnharmed, IsAnswered, IsReloaded, IsStopped, IsCrashed, IsStopping, FailsAt, PassesOn, moments_in, faults_in, held_in}

-- the name of the node at a place
abbrev pub name_at : Shape → ℕ → NodeName
name_at shape place = record { region = place / shape.replicas; replica = place % shape.replicas }

-- each node of the volume is as it is known to be
abbrev pub FitAll : {D : _} {g : _} {lane : _} → Shape → (NodeName → KnownNode) → List (DiskNode D g lane) → Type 0
FitAll {D = D} {g = g} {lane = lane} shape known nodes = (name : NodeName) → IsOfVolume shape name → (node : DiskNode D g lane) → slice_get nodes (node_place shape name) ≡ Some node → Fits shape name (known name) node

-- no call of the disks of those that aren't harmed is to fail
abbrev pub SureAll : {D : _} {g : _} {lane : _} → Shape → (NodeName → Bool) → List (DiskNode D g lane) → Type 0
SureAll {D = D} {g = g} {lane = lane} shape harmed nodes =
    (name : NodeName) → IsOfVolume shape name → (node : DiskNode D g lane) → slice_get nodes (node_place shape name) ≡ Some node → harmed name ≡ false → IsUnharmed node

-- each is there: none has found no memory
abbrev pub AllThere : {D : _} {g : _} {lane : _} → List (DiskNode D g lane) → Type 0
AllThere nodes = AllByRecursion (λ node. is_some node.node ≡ true) nodes

-- no call of the disk of any of these is to fail
abbrev pub AllUnharmed : {D : _} {g : _} {lane : _} → List (DiskNode D g lane) → Type 0
AllUnharmed {D = D} {g = g} {lane = lane} nodes = (place : ℕ) (node : DiskNode D g lane) → slice_get nodes place ≡ Some node → IsUnharmed node

-- the node was just loaded, and holds what a node of that name is formatted with, where its disk tells what it holds
pub record IsFormatted {D : _} {g : _} {lane : _} (shape : Shape) (key : List ℕ) (name : NodeName) (node : DiskNode D g lane) : Type 0 where
  pub fits : Fits shape name (fresh shape name.region (held_in node)) node
  pub holds : Now (moments_in node) (λ now. held_in node ≡ formatted (record { geometry = shape; key = key }) name)

-- so many nodes of a formatted volume
pub record AreFormatted {D : _} {g : _} {lane : _} (shape : Shape) (key : List ℕ) (count : ℕ) (nodes : List (DiskNode D g lane)) : Type 0 where
  pub long : length nodes ≡ count
  pub each : (place : ℕ) (node : DiskNode D g lane) → slice_get nodes place ≡ Some node → IsFormatted shape key (name_at shape place) node

-- the node at that place is another one, and how it became so
pub record ChangesAt {D : _} {g : _} {lane : _} (place : ℕ) (old new : List (DiskNode D g lane)) (How : DiskNode D g lane → DiskNode D g lane → Type 0) : Type 0 where
  pub was : DiskNode D g lane
  pub is : DiskNode D g lane
  pub there : slice_get old place ≡ Some was
  pub set : new ≡ slice_set old place is
  pub how : How was is

-- ---- calls of one node

-- it has handled an input
pub record HasAnswered {D : _} {g : _} {lane : _} (input : Input) (outcome : Outcome) (was is : DiskNode D g lane) : Type 0 where
  pub answered : (shape : Shape) (name : NodeName) (known : KnownNode) → Fits shape name known was → IsAnswered shape name known input outcome is
  pub sure : IsUnharmed was → IsUnharmed is × (outcome.failed ≡ false)
  pub passes : PassesOn input was is
  -- the count of the disk's faults never falls, and rises exactly where a call failed
  pub cause : IsCaused (faults_in was) (faults_in is) outcome.failed

-- it has handled an input as far as its disk went, which stopped after so many calls, and was loaded then
pub record HasStopped {g : _} {lane : _} (calls keep fill : ℕ) (input : Input) (outcome : Outcome) (was is : DiskNode MemDisk g lane) : Type 0 where
  pub stopped : (shape : Shape) (name : NodeName) (known : KnownNode) → Fits shape name known was → IsStopped shape name known input outcome is
  pub unharmed : IsUnharmed is
  pub exact : IsStopping calls keep fill input outcome was is

-- it has crashed, and was loaded then
pub record HasCrashed {g : _} {lane : _} (keep fill : ℕ) (was is : DiskNode MemDisk g lane) : Type 0 where
  pub reloaded : (shape : Shape) (name : NodeName) (known : KnownNode) → Fits shape name known was → IsReloaded shape name known is
  pub unharmed : IsUnharmed is
  pub exact : IsCrashed keep fill was is

-- it has started anew
pub record IsRenewed {g : _} {lane : _} (was is : DiskNode MemDisk g lane) : Type 0 where
  pub renewed : (shape : Shape) (name : NodeName) (known : KnownNode) → Fits shape name known was → Fits shape name (fresh shape name.region nothing_held) is
  pub unharmed : IsUnharmed is

-- a call of its disk is named to fail
pub record IsNamed {g : _} {lane : _} (call : ℕ) (was is : DiskNode MemDisk g lane) : Type 0 where
  pub same : (shape : Shape) (name : NodeName) (known : KnownNode) → Fits shape name known was → Fits shape name known is
  pub exact : FailsAt call was is
