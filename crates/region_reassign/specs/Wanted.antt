-- What is fetched.
use Rattle.std.specs.Prelude.{ℕ, List}
use Rattle.salus_types.specs.Volume.{Shape}

-- in a volume of this shape, the blocks of a region that have this root
pub record Wanted : Type 0 where
  pub shape : Shape
  pub region : ℕ
  pub root : List ℕ
