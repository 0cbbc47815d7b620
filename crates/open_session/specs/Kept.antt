-- What a node's memory of its open session is seen as.
use Rattle.std.specs.Prelude.{◌≡◌, ℕ, Bool, List, Option}
use Rattle.std.specs.List.{AllByRecursion}
use Rattle.salus_types.specs.Volume.{Shape}
use Rattle.salus_types.specs.declared.records.Record.{Record}
use Rattle.client_tag.specs.Ranges.{IsRecord}
use Rattle.replica_rules.specs.Replicas.{Replica}
use Rattle.region_replica.specs.Serving.{Serving}
use Rattle.pipelined_commit.specs.Standing.{KeptLeader}

-- The volume's shape, the region, its replica and its leader, the held parts that count in the order held, the number with
-- which the session began where that is known, and whether all that is held of the session counts.
pub record KeptSession : Type 0 where
  pub shape : Shape
  pub region : ℕ
  pub replica : Replica
  pub leader : KeptLeader
  pub parts : List Record
  pub begun : Option ℕ
  pub whole : Bool

abbrev pub serving_of : KeptSession → Serving
serving_of kept = record { shape = kept.shape; region = kept.region; replica = kept.replica }

-- each kept part can be spelled
abbrev pub KeepsRecords : Serving → Type 0
KeepsRecords serving = AllByRecursion IsRecord serving.replica.early

-- these, seen together
abbrev pub kept_of : Serving → KeptLeader → List Record → Option ℕ → Bool → KeptSession
kept_of serving leader parts begun whole =
    record { shape = serving.shape; region = serving.region; replica = serving.replica; leader = leader; parts = parts; begun = begun; whole = whole }

-- it is of that volume, region and session, and so is its leader; each part that is kept can be spelled
pub record IsSession (shape : Shape) (region session : ℕ) (kept : KeptSession) : Type 0 where
  pub shape_is : kept.shape ≡ shape
  pub region_is : kept.region ≡ region
  pub session_is : kept.replica.session ≡ session
  pub led_shape : kept.leader.shape ≡ shape
  pub led_region : kept.leader.region ≡ region
  pub records : KeepsRecords (serving_of kept)

-- the same volume, region and session
pub record SameSession (before after : KeptSession) : Type 0 where
  pub shape : after.shape ≡ before.shape
  pub region : after.region ≡ before.region
  pub session : after.replica.session ≡ before.replica.session

-- the same volume, region and session, and what is kept can still be spelled
pub record StaysOwn (before after : Serving) : Type 0 where
  pub shape : after.shape ≡ before.shape
  pub region : after.region ≡ before.region
  pub session : after.replica.session ≡ before.replica.session
  pub records : KeepsRecords before → KeepsRecords after
