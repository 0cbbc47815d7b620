-- What the disks of a run's nodes have at its end.
use Rattle.std.specs.Prelude.{List, [], slice_get, Option}
use Rattle.std.specs.Option.{option_map_or}
use Rattle.salus_types.specs.Volume.{Shape}
use Rattle.salus_types.specs.declared.names.NodeName.{NodeName}
use Rattle.disk_model.specs.Disk.{History}
use Rattle.schedule_text.specs.declared.schedule.Volume.{Volume}
use Rattle.schedule_text.specs.declared.schedule.Event.{Event}
use Rattle.salus_model.specs.declared.trace.TraceStep.{TraceStep}
use Rattle.salus_model.specs.Due.{history_from}
use Rattle.salus_model.specs.Following.{Posted, posts_of}
use Rattle.salus_model.specs.Forgery.{NoForgery}
use Rattle.salus_model.specs.Guarding.{Guarded}
use Rattle.salus_model.specs.Seen.{NoCollision}
use Rattle.unanimous_certificate.specs.Kept.{node_place}
use Rattle.disk_node.specs.declared.node.DiskNode.{DiskNode}
use Rattle.disk_node.specs.Knowing.{Seen}
use Rattle.disk_node.specs.Fitting.{seen_in}
use Rattle.law_covered.specs.Coverage.{AreCovered}
use Rattle.image_coverage.specs.OnDisk.{OnDisks}
use Rattle.salus_world.specs.declared.ran.Ran.{Ran}
use Rattle.salus_world.specs.Runs.{Ends}

-- the moments of a node's disk, as they are seen
abbrev pub moments_seen : Option Seen → History
moments_seen seen = option_map_or (λ (s : Seen). s.moments) seen []

-- those of the disk of each node, by its place in the list of all nodes
abbrev pub disks_of : {D : _} {g : _} {lane : _} → Shape → List (DiskNode D g lane) → NodeName → History
disks_of shape nodes name = option_map_or (λ node. moments_seen (seen_in node)) (slice_get nodes (node_place shape name)) []

-- Where no two different strings seen share a digest, no lie brings a forged tag or carries the client's name, and each group has a
-- node that counts at every step, each image that a crash may leave of the disks of the nodes that count has all that was
-- acknowledged or claimed.
abbrev pub DisksCovered : {D : _} {g : _} {lane : _} → Volume → List Event → List Posted → List TraceStep → List (DiskNode D g lane) → Type 0
DisksCovered volume events posts trace nodes =
    NoCollision volume events posts trace → NoForgery volume events posts trace → Guarded volume events posts trace
    → AreCovered volume events posts (history_from volume events posts [] trace) (OnDisks (disks_of volume.geometry nodes))

-- what is left of a run, and what its disks have
pub record RanCovered (volume : Volume) (events : List Event) (ran : Ran) : Type 0 where
  pub ends : Ends volume events ran
  pub disks : DisksCovered volume events (posts_of ran.messages) ends.runs.course.trace ran.nodes.items
