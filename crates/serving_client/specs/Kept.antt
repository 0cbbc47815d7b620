-- What a serving client keeps, and which requests it may be handed.
use Rattle.std.specs.Prelude.{◌≡◌, ℕ, ◌<◌, ◌≤◌, List, length}
use Rattle.std.specs.List.{AllByRecursion}
use Rattle.salus_types.specs.Volume.{Shape, regions}
use Rattle.salus_types.specs.declared.names.NodeName.{NodeName}
use Rattle.salus_types.specs.declared.records.Write.{Write}
use Rattle.salus_model.specs.declared.trace.Request.{Request}
use Rattle.salus_model.specs.declared.trace.Request.TheVariants as request
use Rattle.salus_model.specs.Waiting.{Taken}
use Rattle.client_rules.specs.State.{Open}
use Rattle.client_pipeline.specs.Pipeline.{KeptPipeline}
use Rattle.pruned_volume.specs.Trees.{KeptTrees}

-- The batches that aren't acknowledged, the pruned trees, the waiting line, the open reads, the questions of the head that
-- wait, and the event of the newest request.
pub record KeptServing : Type 0 where
  pub pipeline : KeptPipeline
  pub trees : KeptTrees
  pub line : List Taken
  pub reads : List Open
  pub asked : List Open
  pub newest : ℕ

abbrev pub shape_of : KeptServing → Shape
shape_of kept = kept.pipeline.window.shape

-- A request as a schedule gives it, but for a reassignment: a write has at most 64 blocks, each of the volume's length.
abbrev pub IsSized : Shape → Request → Type 0
IsSized shape (request.Write batch) = (length batch ≤ 64) × AllByRecursion (λ (w : Write). length w.bytes ≡ shape.block) batch
IsSized shape (request.Read b) = Unit {0}
IsSized shape request.Barrier = Unit {0}
IsSized shape (request.Restart session) = Unit {0}
IsSized shape (request.Reassign session region) = ⊥

-- a reassignment is of a region of the volume
abbrev pub IsWithin : Shape → Request → Type 0
IsWithin shape (request.Reassign session region) = region < regions shape
IsWithin shape other = Unit {0}

-- a node of the volume
pub record IsNodeOf (shape : Shape) (name : NodeName) : Type 0 where
  pub region : name.region < regions shape
  pub replica : name.replica < shape.replicas

-- it serves the same session of the same volume, with the same key
pub record GoesOn (before after : KeptServing) : Type 0 where
  pub shape : shape_of after ≡ shape_of before
  pub key : after.pipeline.key ≡ before.pipeline.key
  pub session : after.pipeline.window.session ≡ before.pipeline.window.session
