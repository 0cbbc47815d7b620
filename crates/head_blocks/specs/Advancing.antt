-- What a client answers to an answer for its head, by the rules.
use Rattle.std.specs.Prelude.{◌≡◌, List, [], ◌∷◌, ◌++◌, if◌then◌else◌}
use Rattle.salus_types.specs.declared.names.NodeName.{NodeName}
use Rattle.salus_message.specs.declared.replies.Answer.{Answer}
use Rattle.schedule_text.specs.declared.schedule.Volume.{Volume}
use Rattle.printed_lines.specs.declared.line.Line.{Line}
use Rattle.salus_model.specs.Answering.{is_fitting}
use Rattle.client_rules.specs.State.{Open, Serving, Serves, Told, ignored}
use Rattle.client_rules.specs.Tables.{open_at}
use Rattle.client_rules.specs.Serving.{head_answered, head_faulted, submits}
use Rattle.client_pipeline.specs.Pipeline.{KeptPipeline}
use Rattle.client_pipeline.specs.Standing.{StandsFor}
use Rattle.pruned_volume.specs.Trees.{KeptTrees, AgreesAll}
use Rattle.client_asking.specs.declared.step.Step.{Step}
use Rattle.open_reads.specs.Telling.{Adds}
use Rattle.head_blocks.specs.declared.headway.Headway.{Headway}
use Rattle.head_blocks.specs.declared.headway.Headway.TheVariants as headway

-- the pipeline stands for that client, the questions are those of its head, and the trees agree with its contents
pub record BearsHead (p : KeptPipeline) (trees : KeptTrees) (asked : List Open) (c : Serving) : Type 0 where
  pub stands : StandsFor p c
  pub same : asked ≡ c.asked
  pub agrees : AgreesAll trees c.contents

-- what the rules tell of an answer of the client's session for its head, fitting or not
abbrev pub head_told : Volume → Serving → NodeName → Answer → Told
head_told volume c name a = if is_fitting volume.geometry name a then head_answered volume c name a (open_at a c.asked) else ignored (Serves c)

-- The head waits on: what the rules tell is added, and these are the questions that are left.
pub record WaitsOn (c : Serving) (told : Told) (asked : List Open) (before after : Step) : Type 0 where
  pub known : List Answer
  pub client : told.client ≡ Serves (record c { asked = asked; known = known })
  pub adds : Adds before after told

-- The head is submitted. That is still to be done: nothing is added yet.
pub record IsDue (volume : Volume) (c : Serving) (told : Told) (before after : Step) : Type 0 where
  pub submitted : told ≡ submits volume c c.line
  pub outs : after.outs.items ≡ before.outs.items
  pub lines : after.lines.items ≡ before.lines.items

-- The head ends with this line, which is added. What leaves behind it is still to be done.
pub record HasEnded (volume : Volume) (c : Serving) (told : Told) (before after : Step) : Type 0 where
  pub line : Line
  pub ended : told ≡ head_faulted volume.geometry c line c.line
  pub outs : after.outs.items ≡ before.outs.items
  pub lines : after.lines.items ≡ before.lines.items ++ line ∷ []

abbrev pub IsTold : Headway → Volume → Serving → Told → List Open → Step → Step → Type 0
IsTold headway.Waits volume c told asked before after = WaitsOn c told asked before after
IsTold headway.Known volume c told asked before after = IsDue volume c told before after
IsTold headway.Faulted volume c told asked before after = HasEnded volume c told before after
