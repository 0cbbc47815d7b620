-- The file of a checkpoint, and why one is refused.
use Rattle.std.specs.Prelude.{◌≡◌, ◌⊎◌, ℕ, ◌≤◌, List, [], ◌∷◌, ◌++◌, length, take, replicate}
use Rattle.disk_lane.specs.Heads.{file_mark, live_bytes, IsUnmarked}
use Rattle.datanode_log.specs.Entries.{log_of}
use Rattle.datanode_store.specs.declared.error.StoreError.{StoreError}
use Rattle.datanode_store.specs.declared.error.StoreError.TheVariants.{Foreign, Damaged, BadRecord, Device, NoMemory}
use Rattle.datanode_store.specs.Causes.{RefusesFile}

-- a checkpoint that holds nothing: mark, selector, seven zero bytes, and an empty log in lane 0
abbrev pub formatted : List ℕ
formatted = file_mark ++ replicate 8 0 ++ log_of [] ++ 0 ∷ []

-- long enough, and with the mark
pub record IsMarked (file : List ℕ) : Type 0 where
  pub long : 16 ≤ length file
  pub marked : take 8 file ≡ file_mark

-- why the live lane of a file is refused, as a store's file is
pub record RefusesLane (error : StoreError) (file : List ℕ) : Type 0 where
  pub marked : IsMarked file
  pub lane : RefusesFile error (live_bytes file)

-- why a file is refused
abbrev pub RefusesLive : StoreError → List ℕ → Type 0
RefusesLive Foreign file = IsUnmarked file ⊎ RefusesLane Foreign file
RefusesLive (Damaged at) file = RefusesLane (Damaged at) file
RefusesLive (BadRecord at) file = RefusesLane (BadRecord at) file
RefusesLive Device file = Unit {0}
RefusesLive NoMemory file = Unit {0}
