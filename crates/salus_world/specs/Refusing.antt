-- Why a world doesn't come about.
use Rattle.std.specs.Prelude.{◌≡◌, ℕ, Bool, IsTrue, List, slice_get, Some}
use Rattle.salus_types.specs.Outcome.{Rose}
use Rattle.disk_model.specs.Disk.{History, Now}
use Rattle.datanode_store.specs.declared.error.StoreError.{StoreError}
use Rattle.datanode_store.specs.declared.error.StoreError.TheVariants as store
use Rattle.datanode_store.specs.Causes.{IsOutside}
use Rattle.salus_world.specs.declared.error.WorldError.{WorldError}
use Rattle.salus_world.specs.declared.error.WorldError.TheVariants as error

-- The count of the faults of one of the disks has risen, and it wasn't one of which no call was to fail.
pub record HasFailed {D : Type 0} (faults : D → ℕ) (is_sure : D → Bool) (old new : List D) : Type 0 where
  pub place : ℕ
  pub was : D
  pub is : D
  pub there : slice_get old place ≡ Some was
  pub now_there : slice_get new place ≡ Some is
  pub rose : Rose (faults was) (faults is)
  pub harmed : IsTrue (is_sure was) → ⊥

-- one of the disks doesn't tell what it holds
pub record TellsNot {D : Type 0} (history : D → History) (disks : List D) : Type 0 where
  pub place : ℕ
  pub disk : D
  pub there : slice_get disks place ≡ Some disk
  pub untold : Now (history disk) (λ now. ⊥)

-- A device failed; or a disk that holds something else than was written to it doesn't tell what it holds.
abbrev pub IsRefused : {D : Type 0} → (D → History) → (D → ℕ) → (D → Bool) → List D → WorldError D → Type 0
IsRefused history faults is_sure old (error.Device disks) = HasFailed faults is_sure old disks.items
IsRefused history faults is_sure old (error.Node name why disks) = TellsNot history disks.items
IsRefused history faults is_sure old error.NoMemory = Unit {0}

-- the disk at that place was refused for that
abbrev pub IsRefusedAs : {D : Type 0} → ℕ → D → StoreError → WorldError D → Type 0
IsRefusedAs place disk why (error.Device disks) = (slice_get disks.items place ≡ Some disk) × (why ≡ store.Device)
IsRefusedAs place disk why (error.Node name other disks) = (slice_get disks.items place ≡ Some disk) × (IsOutside why → ⊥)
IsRefusedAs place disk why error.NoMemory = Unit {0}
