-- The waiting line while requests leave it.
use Rattle.std.specs.Prelude.{◌≡◌, ℕ, List}
use Rattle.salus_model.specs.Waiting.{Taken, left_of}
use Rattle.client_rules.specs.State.{Open, Serving}
use Rattle.client_rules.specs.Tables.{line_of}
use Rattle.client_pipeline.specs.Pipeline.{KeptPipeline, Stays}
use Rattle.verified_read.specs.Table.{Table}
use Rattle.client_asking.specs.declared.step.Step.{Step}
use Rattle.client_asking.specs.Leaving.{Bears, HaveLeft}
use Rattle.client_asking.specs.Lining.{AreUpTo, HasRoom, numbers_taken}

-- For a client at the start there is one that is borne now, of which all that leaves yet leaves all of the first.
pub record GoesOnLeaving (c : Serving) (first : List Taken) (before : Step) (p : KeptPipeline) (reads : Table) (line : List Taken) (step : Step) : Type 0 where
  pub now : Serving
  pub bears : Bears p reads.asked now
  pub rest : (q : KeptPipeline) (others : List Open) (after : Step) → HaveLeft p.window.shape (left_of line) now step q others after
      → HaveLeft p.window.shape (left_of first) c before q others after

pub record IsLeaving (p0 : KeptPipeline) (reads0 : Table) (line0 : List Taken) (step0 : Step) (p : KeptPipeline) (reads : Table) (line : List Taken) (step : Step) : Type 0 where
  pub stays : Stays p0 p
  pub shape : reads.shape ≡ reads0.shape
  pub room : HasRoom p reads.asked line
  pub up_to : (high : ℕ) → AreUpTo high (numbers_taken reads0.asked line0) → AreUpTo high (numbers_taken reads.asked line)
  pub rest : line_of line ≡ line_of line0
  pub goes : (c : Serving) → Bears p0 reads0.asked c → GoesOnLeaving c line0 step0 p reads line step
