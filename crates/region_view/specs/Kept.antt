-- What a region's view is seen as.
use Rattle.std.specs.Prelude.{◌≡◌, IsTrue}
use Rattle.salus_types.specs.Volume.{Shape}
use Rattle.merkle_region.specs.Kept.{Region}
use Rattle.holding_model.specs.Fitting.{has_shape}
use Rattle.replica_rules.specs.Views.{View}

-- the volume's shape, and the region's blocks with their number
pub record KeptView : Type 0 where
  pub shape : Shape
  pub view : View

-- the tree is as high as a region of that shape, and has one block for each place, each of the volume's length
pub record IsKept (shape : Shape) (tree : Region) : Type 0 where
  pub height : tree.height ≡ shape.height
  pub blocks : IsTrue (has_shape shape tree.blocks)
