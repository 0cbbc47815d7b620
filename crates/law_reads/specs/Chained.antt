-- The views that a known session's batches give of a region.
use Rattle.std.specs.Prelude.{◌≡◌, ℕ, ◌≤◌, length}
use Rattle.salus_types.specs.Volume.{Shape}
use Rattle.volume_model.specs.Contents.{blocks_in}
use Rattle.volume_model.specs.Parts.{Session, contents_after, number_of}
use Rattle.replica_rules.specs.Views.{View}

-- The view after the first x batches of a known session: the region's number then, and its blocks.
pub record IsViewOf (shape : Shape) (known : Session) (g : ℕ) (view : View) : Type 0 where
  pub x : ℕ
  pub above : known.base ≤ x
  pub within : x ≤ length known.list
  pub number : view.number ≡ number_of shape known x g
  pub blocks : view.blocks ≡ blocks_in shape (contents_after known x) g

-- the view after its last batch
pub record IsLastView (shape : Shape) (known : Session) (g : ℕ) (view : View) : Type 0 where
  pub number : view.number ≡ number_of shape known (length known.list) g
  pub blocks : view.blocks ≡ blocks_in shape (contents_after known (length known.list)) g
