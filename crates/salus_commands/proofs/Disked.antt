-- What is covered in all that is known of the nodes at the end of a run is covered on their disks.
use Rattle.std.proofs.Common.{◌≡◌, List, [], ◌∷◌, Option, None, Some, refl}
use Rattle.std.specs.Prelude.{slice_get}
use Rattle.std.specs.Option.{option_map_or}
use Rattle.salus_types.specs.Volume.{Shape}
use Rattle.salus_types.specs.declared.names.NodeName.{NodeName}
use Rattle.disk_model.specs.Disk.{EachImage, Now}
use Rattle.datanode_store.specs.Live.{MeansOneLive}
use Rattle.schedule_text.specs.Limits.{IsOfVolume}
use Rattle.schedule_text.specs.declared.schedule.Volume.{Volume}
use Rattle.schedule_text.specs.declared.schedule.Event.{Event}
use Rattle.salus_model.specs.declared.trace.TraceStep.{TraceStep}
use Rattle.salus_model.specs.Due.{past_of, history_from}
use Rattle.salus_model.specs.Following.{Posted}
use Rattle.salus_model.specs.Hearing.{Past}
use Rattle.run_rules.specs.Knowing.{KnownNode}
use Rattle.run_rules.specs.Running.{after, known_of}
use Rattle.unanimous_certificate.specs.Kept.{node_place}
use Rattle.disk_node.specs.declared.node.DiskNode.{DiskNode}
use Rattle.disk_node.specs.Knowing.{Seen}
use Rattle.disk_node.specs.Fitting.{FitsIn, seen_in}
use Rattle.law_covered.specs.Coverage.{AreCovered, MayMean, CoveredFrom}
use Rattle.image_coverage.specs.OnDisk.{DisksMean}
use Rattle.salus_world.specs.Places.{FitAll}
use Rattle.salus_commands.specs.Disks.{moments_seen, disks_of}

-- what is covered throughout is covered at the end
pub covered_last : (volume : Volume) (events : List Event) (posts : List Posted) (steps : List TraceStep) (history : List Past) (known : NodeName → KnownNode) → CoveredFrom volume events posts history known steps
    → AreCovered volume events posts (history_from volume events posts history steps) (MayMean volume events posts (λ name. known_of volume.geometry posts name (known name) steps))
unfolding CoveredFrom history_from known_of
covered_last volume events posts [] history known all = all
covered_last volume events posts (t ∷ steps) history known all =
    covered_last volume events posts steps (past_of volume events posts history t ∷ history) (λ name. after volume.geometry posts name (known name) t) all.1

-- ---- disks mean what is known

node_means : (shape : Shape) (name : NodeName) (known : KnownNode) (seen : Option Seen) → FitsIn shape name known seen → Now (moments_seen seen) (λ now. EachImage now (MeansOneLive known.contents))
node_means shape name known None there = absurd there
node_means shape name known (Some node) there = there.images

module _ {D : _} {g : _} {lane : _} (shape : Shape) (known : NodeName → KnownNode) (nodes : List (DiskNode D g lane)) (fit : FitAll shape known nodes) where
  place_means : (name : NodeName) → IsOfVolume shape name → (o : Option (DiskNode D g lane)) → slice_get nodes (node_place shape name) ≡ o
      → Now (option_map_or (λ node. moments_seen (seen_in node)) o []) (λ now. EachImage now (MeansOneLive (known name).contents))
  place_means name inside None at = tt
  place_means name inside (Some node) at = node_means shape name (known name) (seen_in node) (fit name inside node at).there

  pub disks_mean : DisksMean shape known (disks_of shape nodes)
  disks_mean name inside = place_means name inside (slice_get nodes (node_place shape name)) refl
