-- What a window keeps of a client that serves: numbers, digests, names of leaders, claims and barriers, and no block.
use Rattle.std.specs.Prelude.{ℕ, ◌-◌, ◌<◌, ◌≤◌, ◌≡◌, List, [], ◌∷◌, map, length}
use Rattle.salus_types.specs.Volume.{Shape, regions, blocks}
use Rattle.salus_types.specs.declared.records.Write.{Write}
use Rattle.volume_model.specs.Contents.{all_regions}
use Rattle.unanimous_certificate.specs.Kept.{KeptClaims, claims_in}
use Rattle.client_rules.specs.State.{Waiter}

pub record KeptWindow : Type 0 where
  pub shape : Shape
  -- the session, its base, the last number, the acknowledged front
  pub session : ℕ
  pub base : ℕ
  pub last : ℕ
  pub acked : ℕ
  -- the number and the root of each region
  pub numbers : List ℕ
  pub roots : List (List ℕ)
  -- the leader of the last batch, 0 where the session has none yet, and those of the batches that aren't acknowledged
  pub leader : ℕ
  pub leaders : List ℕ
  pub claims : KeptClaims
  -- the oldest first
  pub barriers : List Waiter

-- how many batches aren't acknowledged
abbrev pub in_flight : KeptWindow → ℕ
in_flight w = w.last - w.acked

-- the write is of a block of the volume, and has its length
pub record IsWriteOf (shape : Shape) (w : Write) : Type 0 where
  pub within : w.block < blocks shape
  pub long : length w.bytes ≡ shape.block

-- from `low` on the fronts of these barriers don't fall, and none is above the last number
unfoldable pub AreWaiting : ℕ → List Waiter → ℕ → Type 0
AreWaiting low [] last = low ≤ last
AreWaiting low (w ∷ barriers) last = (low ≤ w.front) × AreWaiting w.front barriers last

-- what is true of every window
pub record IsWindow (w : KeptWindow) : Type 0 where
  pub numbered : length w.numbers ≡ regions w.shape
  pub rooted : length w.roots ≡ regions w.shape
  pub claims_shape : w.claims.shape ≡ w.shape
  pub based : w.base ≤ w.acked
  pub front : w.acked ≤ w.last
  pub counted : length w.leaders ≡ w.last - w.acked
  pub few : w.last - w.acked ≤ 16
  pub waiting : AreWaiting 0 w.barriers w.last
  pub few_wait : length w.barriers ≤ 64

-- the window of a session that begins with these roots: nothing is in flight, and every claim is the base
pub record Begins (shape : Shape) (session base : ℕ) (roots : List (List ℕ)) (w : KeptWindow) : Type 0 where
  pub shape_is : w.shape ≡ shape
  pub session_is : w.session ≡ session
  pub base_is : w.base ≡ base
  pub last_is : w.last ≡ base
  pub acked_is : w.acked ≡ base
  pub numbers_are : w.numbers ≡ map (λ g. base) (all_regions shape)
  pub roots_are : w.roots ≡ roots
  pub leader_is : w.leader ≡ 0
  pub no_leaders : w.leaders ≡ []
  pub claims_are : claims_in w.claims ≡ (λ name. base)
  pub no_barriers : w.barriers ≡ []
