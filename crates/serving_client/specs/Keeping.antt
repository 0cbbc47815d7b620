-- What is true of a serving client, and of one whose head ends.
use Rattle.std.specs.Prelude.{◌≡◌, ℕ, ◌+◌, ◌^◌, ◌<◌, ◌≤◌, true, List, [], ◌∷◌, ◌++◌, map, length}
use Rattle.schedule_text.specs.declared.schedule.Volume.{Volume}
use Rattle.printed_lines.specs.declared.line.Line.TheVariants as line
use Rattle.salus_model.specs.declared.trace.Request.{Request}
use Rattle.salus_model.specs.declared.trace.Request.TheVariants as request
use Rattle.salus_model.specs.Waiting.{is_read, is_write, is_barrier, reads_among, writes_among, barriers_among}
use Rattle.volume_model.specs.Contents.{Batch}
use Rattle.posting.specs.Letters.{out_of_letter}
use Rattle.client_rules.specs.State.{Serving}
use Rattle.client_rules.specs.Submitting.{next_parts, part_letters, with_batch}
use Rattle.client_window.specs.Window.{in_flight}
use Rattle.client_pipeline.specs.Standing.{IsVolumeOf, StandsFor as PipelineStandsFor}
use Rattle.pruned_volume.specs.Trees.{AgreesAll}
use Rattle.client_asking.specs.declared.step.Step.{Step}
use Rattle.client_asking.specs.Lining.{AreUpTo, HasRoom, IsAccepted, numbers_taken}
use Rattle.head_blocks.specs.Headed.{IsHeaded}
use Rattle.serving_client.specs.declared.inside.Core.{Core}
use Rattle.serving_client.specs.Kept.{KeptServing}

-- how a contract sees it
abbrev pub kept_of : Core → KeptServing
kept_of k = record { pipeline = k.pipeline; trees = k.trees; line = k.line; reads = k.reads.asked; asked = k.asked.asked; newest = k.newest }

-- All is of one volume. What waits in line was accepted, with room for all of it to leave, and none of it is newer than the
-- newest request; so far there are fewer batches than requests, above a base that is low.
pub record IsLined (k : Core) : Type 0 where
  pub trees_shape : k.trees.shape ≡ k.pipeline.window.shape
  pub reads_shape : k.reads.shape ≡ k.pipeline.window.shape
  pub asked_shape : k.asked.shape ≡ k.pipeline.window.shape
  pub room : HasRoom k.pipeline k.reads.asked k.line
  pub up_to : AreUpTo k.newest (numbers_taken k.reads.asked k.line)
  pub low : k.newest < 2 ^ 32
  pub below : k.pipeline.window.last + writes_among k.line ≤ 2 ^ 63 + k.newest

-- and where a request waits, a write stands at the head that has asked for its blocks
pub record IsKept (k : Core) : Type 0 where
  pub lined : IsLined k
  pub headed : IsHeaded k.trees k.asked.asked k.line

-- no head has asked for anything yet
pub record IsHeadless (k : Core) : Type 0 where
  pub lined : IsLined k
  pub none : k.asked.asked ≡ []

-- there is room for a request in the waiting line
pub record HasPlace (k : Core) (r : Request) : Type 0 where
  pub accepted : IsAccepted k.pipeline.window.shape r
  pub reads : is_read r ≡ true → length k.reads.asked + reads_among k.line < 64
  pub barriers : is_barrier r ≡ true → length k.pipeline.window.barriers + barriers_among k.line < 64
  pub batches : is_write r ≡ true → in_flight k.pipeline.window + writes_among k.line < 16

-- It serves the same session of the same volume with the same key, and has submitted what waited at most. So it is after an
-- error too.
pub record Survives (before after : Core) : Type 0 where
  pub shape : after.pipeline.window.shape ≡ before.pipeline.window.shape
  pub key : after.pipeline.key ≡ before.pipeline.key
  pub session : after.pipeline.window.session ≡ before.pipeline.window.session
  pub trees : after.trees.shape ≡ before.trees.shape
  pub last : after.pipeline.window.last ≤ before.pipeline.window.last + writes_among before.line

-- no request waits, and nothing is asked for
pub record HasGivenUp (before after : Core) : Type 0 where
  pub pipeline : after.pipeline ≡ before.pipeline
  pub trees : after.trees ≡ before.trees
  pub newest : after.newest ≡ before.newest
  pub line : after.line ≡ []
  pub reads : after.reads ≡ record { shape = before.pipeline.window.shape; asked = [] }
  pub asked : after.asked ≡ record { shape = before.pipeline.window.shape; asked = [] }

-- It stands for that client, but for the waiting line and what the head has asked for.
pub record IsBorne (volume : Volume) (k : Core) (c : Serving) : Type 0 where
  pub volume_is : IsVolumeOf k.pipeline volume
  pub pipeline : PipelineStandsFor k.pipeline c
  pub agrees : AgreesAll k.trees c.contents
  pub reads : k.reads.asked ≡ c.reads

-- with that write before all others
abbrev pub headed_by : Core → ℕ → Batch → Core
headed_by k v batch = record k { line = record { event = v; request = request.Write batch } ∷ k.line }

-- The batch is the client's next: its parts are sent, and its line is printed.
pub record IsSubmitted (volume : Volume) (c : Serving) (v : ℕ) (batch : Batch) (before : Step) (k : Core) (after : Step) : Type 0 where
  pub borne : IsBorne volume k (with_batch volume c batch)
  pub outs : after.outs.items ≡ before.outs.items ++ map out_of_letter (part_letters volume.geometry (next_parts volume c batch))
  pub lines : after.lines.items ≡ before.lines.items ++ line.Submit v (c.last + 1) ∷ []
