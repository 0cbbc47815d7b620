-- What a replica is seen as.
use Rattle.std.specs.Prelude.{◌≡◌, ℕ, IsTrue}
use Rattle.std.specs.List.{AllByRecursion}
use Rattle.salus_types.specs.Volume.{Shape}
use Rattle.salus_types.specs.declared.records.Record.{Record}
use Rattle.replica_rules.specs.Replicas.{Replica, is_for}

-- the volume's shape, the region that it serves, and the replica of the rules
pub record Serving : Type 0 where
  pub shape : Shape
  pub region : ℕ
  pub replica : Replica

-- the part is of its session and region, and of the right shape
abbrev pub IsFor : Serving → Record → Type 0
IsFor serving rec = IsTrue (is_for serving.shape serving.region serving.replica rec)

-- all that are kept are
abbrev pub KeepsItsOwn : Serving → Type 0
KeepsItsOwn serving = AllByRecursion (IsFor serving) serving.replica.early

-- another state of the same replica
abbrev pub now_as : Serving → Replica → Serving
now_as serving replica = record serving { replica = replica }

-- the view is one of the volume, and what is kept is its own
pub record IsServing (seen : Shape) (serving : Serving) : Type 0 where
  pub shape : seen ≡ serving.shape
  pub own : KeepsItsOwn serving
