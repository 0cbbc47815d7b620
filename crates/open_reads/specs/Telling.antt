-- What a client tells by its rules, as it is added to a step, and what it tells of an answer to an open read.
use Rattle.std.specs.Prelude.{◌≡◌, ℕ, if◌then◌else◌, List, ◌++◌, map}
use Rattle.salus_types.specs.Volume.{Shape}
use Rattle.salus_types.specs.declared.names.NodeName.{NodeName}
use Rattle.salus_message.specs.declared.replies.Answer.{Answer}
use Rattle.salus_model.specs.Waiting.{Taken}
use Rattle.salus_model.specs.Answering.{is_fitting}
use Rattle.posting.specs.Letters.{out_of_letter}
use Rattle.client_rules.specs.State.{Open, Serving, Serves, Told, ignored}
use Rattle.client_rules.specs.Tables.{open_at}
use Rattle.client_rules.specs.Serving.{read_answered}
use Rattle.client_pipeline.specs.Pipeline.{KeptPipeline}
use Rattle.client_asking.specs.declared.step.Step.{Step}
use Rattle.client_asking.specs.Lining.{AreUpTo, HasRoom, numbers_taken}

-- the messages and the lines of the rules are added
pub record Adds (before after : Step) (told : Told) : Type 0 where
  pub outs : after.outs.items ≡ before.outs.items ++ map out_of_letter told.outs
  pub lines : after.lines.items ≡ before.lines.items ++ told.lines

-- what the rules tell of an answer in the served session under a read's number; one that doesn't fit is ignored
abbrev pub told_of_read : Shape → Serving → NodeName → Answer → Told
told_of_read shape c name a = if is_fitting shape name a then read_answered shape c name a (open_at a c.reads) else ignored (Serves c)

-- That is added, and the client is as it was, but that its open reads have become these.
pub record IsReadTold (shape : Shape) (c : Serving) (name : NodeName) (a : Answer) (before : Step) (reads : List Open) (after : Step) : Type 0 where
  pub adds : Adds before after (told_of_read shape c name a)
  pub client : (told_of_read shape c name a).client ≡ Serves (record c { reads = reads })

-- Where the open reads become these, there is room as before, and no greater number is taken.
pub record KeepsRoom (before after : List Open) : Type 0 where
  pub room : (p : KeptPipeline) (line : List Taken) → HasRoom p before line → HasRoom p after line
  pub up_to : (high : ℕ) (line : List Taken) → AreUpTo high (numbers_taken before line) → AreUpTo high (numbers_taken after line)
