-- What becomes of the open reads and of the barriers when requests leave the waiting line.
use Rattle.std.specs.Prelude.{◌≡◌, ℕ, ◌<◌, ◌≤◌, ◌+◌, true, List, [], ◌∷◌, ◌++◌, map, flat_map, length, None}
use Rattle.salus_types.specs.Volume.{Shape}
use Rattle.salus_model.specs.Waiting.{Taken, is_read, is_barrier}
use Rattle.client_rules.specs.State.{Open, Serving}
use Rattle.client_rules.specs.Tables.{fresh, asks, read_questions, waiter_of, answered_of}
use Rattle.client_pipeline.specs.Pipeline.{KeptPipeline}
use Rattle.client_pipeline.specs.Standing.{StandsFor}
use Rattle.posting.specs.Letters.{out_of_letter}
use Rattle.verified_read.specs.Table.{Table}
use Rattle.client_asking.specs.declared.step.Step.{Step}

-- the pipeline stands for that client, and the open reads are its own
pub record Bears (p : KeptPipeline) (reads : List Open) (c : Serving) : Type 0 where
  pub stands : StandsFor p c
  pub same : reads ≡ c.reads

-- the client after these have left
abbrev pub left_with : Shape → Serving → List Taken → Serving
left_with shape c gone = record c {
  reads = c.reads ++ map (fresh shape) (read_questions gone);
  barriers = c.barriers ++ flat_map (λ r. waiter_of c r) gone;
}

-- These have left: their reads are open and asked for, their barriers wait or are answered.
pub record HaveLeft (shape : Shape) (gone : List Taken) (c : Serving) (before : Step) (p : KeptPipeline) (reads : List Open) (after : Step) : Type 0 where
  pub bears : Bears p reads (left_with shape c gone)
  pub outs : after.outs.items ≡ before.outs.items ++ map out_of_letter (flat_map (λ q. asks shape c q) (read_questions gone))
  pub lines : after.lines.items ≡ before.lines.items ++ flat_map (λ r. answered_of c r) gone
