-- Which serving clients of the rules one stands for, and that a call does what the rules say.
use Rattle.std.specs.Prelude.{◌≡◌}
use Rattle.schedule_text.specs.declared.schedule.Volume.{Volume}
use Rattle.client_rules.specs.State.{Serving, Client, Serves, Told}
use Rattle.client_pipeline.specs.Standing.{IsVolumeOf, StandsFor as PipelineStandsFor}
use Rattle.pruned_volume.specs.Trees.{AgreesAll}
use Rattle.client_asking.specs.declared.step.Step.{Step}
use Rattle.open_reads.specs.Telling.{Adds}
use Rattle.serving_client.specs.Kept.{KeptServing}

-- It stands for that client of that volume. Its pruned trees agree with the client's blocks; nothing is said of the answers
-- that made blocks known.
pub record StandsFor (volume : Volume) (kept : KeptServing) (c : Serving) : Type 0 where
  pub volume_is : IsVolumeOf kept.pipeline volume
  pub pipeline : PipelineStandsFor kept.pipeline c
  pub agrees : AgreesAll kept.trees c.contents
  pub line : kept.line ≡ c.line
  pub reads : kept.reads ≡ c.reads
  pub asked : kept.asked ≡ c.asked

-- it stands for that client, which serves
abbrev pub Becomes : Volume → KeptServing → Client → Type 0
Becomes volume kept (Serves c) = StandsFor volume kept c
Becomes volume kept other = ⊥

-- It has become what the rules say, and their messages and lines are added.
pub record IsTold (volume : Volume) (before after : Step) (kept : KeptServing) (told : Told) : Type 0 where
  pub becomes : Becomes volume kept told.client
  pub adds : Adds before after told
