-- What is known of sessions that were staged and not opened: each has a front part of the list of the session served.
use Rattle.std.specs.Prelude.{◌≡◌, ℕ, ◌<◌, take, Some}
use Rattle.volume_model.specs.Parts.{Session}
use Rattle.salus_model.specs.Judge.{Judge, known_at}

pub record AreFronts (judge : Judge) : Type 0 where
  pub each : (known : Session) (f : ℕ) → known_at judge f ≡ Some known → judge.now.session < f → known.list ≡ take known.base judge.now.list
