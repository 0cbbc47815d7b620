-- What the disks of nodes may leave, read as what is held.
use Rattle.std.specs.Prelude.{List, [], ◌∷◌, ℕ}
use Rattle.salus_types.specs.Volume.{Shape}
use Rattle.salus_types.specs.declared.names.NodeName.{NodeName}
use Rattle.salus_types.specs.declared.records.Held.{Held}
use Rattle.disk_model.specs.Disk.{History, IsImage, EachImage, Now}
use Rattle.datanode_store.specs.Live.{MeansLive, MeansOneLive}
use Rattle.schedule_text.specs.Limits.{IsOfVolume}
use Rattle.run_rules.specs.Knowing.{KnownNode}

-- Some image that a crash may leave now means that. Of a disk that doesn't tell what it holds nothing is said.
abbrev pub IsOnDisk : History → Held → Type 0
IsOnDisk [] held = ⊥
IsOnDisk (moment ∷ past) held = (image : List ℕ) × IsImage moment image × MeansLive held image

-- so of the disk of each node
abbrev pub OnDisks : (NodeName → History) → NodeName → Held → Type 0
OnDisks disks name held = IsOnDisk (disks name) held

-- each image of the disk of each node means one of the contents that are known
abbrev pub DisksMean : Shape → (NodeName → KnownNode) → (NodeName → History) → Type 0
DisksMean shape known disks = (name : NodeName) → IsOfVolume shape name → Now (disks name) (λ now. EachImage now (MeansOneLive (known name).contents))
