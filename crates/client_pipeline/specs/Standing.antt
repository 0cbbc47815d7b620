-- Which serving clients of the rules a pipeline stands for.
use Rattle.std.specs.Prelude.{◌≡◌, map}
use Rattle.schedule_text.specs.declared.schedule.Volume.{Volume}
use Rattle.client_rules.specs.State.{Serving, Unacked}
use Rattle.client_window.specs.Standing.{StandsFor as WindowStandsFor}
use Rattle.client_pipeline.specs.Pipeline.{KeptPipeline}

-- Its window stands for that client, and its parts are those of the client's batches that aren't acknowledged.
pub record StandsFor (p : KeptPipeline) (c : Serving) : Type 0 where
  pub window : WindowStandsFor p.window c
  pub parts : p.parts ≡ map (λ (u : Unacked). u.parts) c.unacked

-- of that shape, with that key
pub record IsVolumeOf (p : KeptPipeline) (volume : Volume) : Type 0 where
  pub geometry : volume.geometry ≡ p.window.shape
  pub key : volume.key ≡ p.key
