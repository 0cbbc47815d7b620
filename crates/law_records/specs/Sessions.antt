-- What every session that the lines make known keeps to, so that its records count.
use Rattle.std.specs.Prelude.{◌≡◌, ℕ, ◌^◌, ◌<◌, ◌≤◌, true, length}
use Rattle.std.specs.List.{AllByRecursion}
use Rattle.salus_types.specs.Volume.{Shape, regions, blocks}
use Rattle.volume_model.specs.Contents.{Batch}
use Rattle.volume_model.specs.Parts.{Session, touches}

-- the batch touches a region of the volume
pub record TouchesSome (shape : Shape) (batch : Batch) : Type 0 where
  pub region : ℕ
  pub inside : region < regions shape
  pub touched : touches shape batch region ≡ true

-- Its contents are the volume's, it starts with batches of its list, its numbers fit a header, and each batch touches a region.
pub record IsCountable (shape : Shape) (known : Session) : Type 0 where
  pub positive : 0 < known.session
  pub long : length known.origin ≡ blocks shape
  pub begun : known.base ≤ length known.list
  pub small : length known.list ≤ 2 ^ 63
  pub some : AllByRecursion (TouchesSome shape) known.list
