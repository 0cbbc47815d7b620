-- A reassignment that fetches: which client of the rules it stands for, and what is true of what it keeps.
use Rattle.std.specs.Prelude.{◌≡◌, ◌<◌, length}
use Rattle.salus_types.specs.Volume.{Shape, regions, blocks}
use Rattle.volume_model.specs.Contents.{roots_of}
use Rattle.client_rules.specs.State.{Fetching as AnyFetching, Serving}
use Rattle.session_opening.specs.declared.fetching.Fetching.{Fetching}
use Rattle.session_opening.specs.declared.fetching.Served.{Served}

-- what a client of the rules serves: its session, its last number, and the roots of its blocks
pub record IsServed (shape : Shape) (served : Served) (c : Serving) : Type 0 where
  pub session : served.session ≡ c.session
  pub last : served.number ≡ c.last
  pub roots : served.roots ≡ roots_of shape c.contents
  pub long : length c.contents ≡ blocks shape

pub record IsFetching (shape : Shape) (kept : Fetching) : Type 0 where
  pub shape_is : kept.geometry ≡ shape
  pub region : kept.region < regions shape
  pub roots : length kept.served.roots ≡ regions shape

-- the roots are those of the client's blocks
pub record FetchesAs (kept : Fetching) (f : AnyFetching) : Type 0 where
  pub session : kept.session ≡ f.session
  pub region : kept.region ≡ f.region
  pub served : kept.served.session ≡ f.served
  pub last : kept.served.number ≡ f.last
  pub roots : kept.served.roots ≡ roots_of kept.geometry f.contents
  pub long : length f.contents ≡ blocks kept.geometry
