-- The abstract world: sessions with their lists, nodes with the images of their disks, the messages of honest nodes.
use Rattle.std.specs.Prelude.{◌≡◌, ℕ, zero, suc, ◌<◌, Bool, true, List, [], ◌∷◌}
use Rattle.law_prefix.specs.Images.{Image}

pub data Phase : Type 0 where
  Closed Serving Gathering Fetching Staging Switching : Phase

-- what the lines say, and the client's phase
pub record Client : Type 0 where
  pub lists : ℕ → List (List ℕ)
  pub starts : ℕ → ℕ
  pub known : List ℕ
  pub served : ℕ
  pub acked : ℕ
  pub asked : ℕ
  pub phase : Phase
  pub switches : List ℕ

pub record Vote : Type 0 where
  pub node : ℕ
  pub session : ℕ
  pub before : ℕ

-- a claim, and whether its sender counted when it was sent
pub record Claim : Type 0 where
  pub node : ℕ
  pub session : ℕ
  pub front : ℕ
  pub counted : Bool

pub record Told : Type 0 where
  pub node : ℕ
  pub session : ℕ

pub record Reply : Type 0 where
  pub node : ℕ
  pub session : ℕ
  pub held : Image

pub record World : Type 0 where
  pub client : Client
  pub images : ℕ → List Image
  pub counts : ℕ → Bool
  pub fresh : ℕ → Bool
  pub votes : List Vote
  pub claims : List Claim
  pub staged : List Told
  pub switched : List Told
  pub replies : List Reply

-- the volume: how many regions, each node's region, and which nodes no lie names
pub record Volume : Type 0 where
  pub regions : ℕ
  pub region : ℕ → ℕ
  pub honest : ℕ → Bool

-- each region has a node that counts
abbrev pub Guarded : Volume → (ℕ → Bool) → Type 0
Guarded v counts = (g : ℕ) → g < v.regions → (r : ℕ) × (v.region r ≡ g) × (counts r ≡ true)

-- the leader of batch number i + 1
unfoldable pub leader : List (List ℕ) → ℕ → ℕ
leader [] i = zero
leader ([] ∷ bs) zero = zero
leader ((g ∷ gs) ∷ bs) zero = g
leader (b ∷ bs) (suc i) = leader bs i
