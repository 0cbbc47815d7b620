-- Which error a call of a store answers.
use Rattle.std.specs.Prelude.{◌≡◌, ℕ, Bool, true, false, List, take, IsSomeAnd, None, Result, Ok, Err}
use Rattle.std.specs.List.{slice_get}
use Rattle.datanode_log.specs.declared.error.LogError.{LogError}
use Rattle.datanode_log.specs.declared.error.LogError.TheVariants as log
use Rattle.datanode_log.specs.Entries.{entries_of}
use Rattle.datanode_log.specs.Logs.{IsLog, Refuses}
use Rattle.holding_model.specs.Holding.{entry_of, Holds}
use Rattle.datanode_store.specs.declared.error.StoreError.{StoreError}
use Rattle.datanode_store.specs.declared.error.StoreError.TheVariants.{Foreign, Damaged, BadRecord, Device, NoMemory}

abbrev pub of_log : LogError → StoreError
of_log log.Foreign = Foreign
of_log (log.Damaged at) = Damaged at
of_log log.Device = Device
of_log log.NoMemory = NoMemory

abbrev pub is_device : StoreError → Bool
is_device Foreign = false
is_device (Damaged at) = false
is_device (BadRecord at) = false
is_device Device = true
is_device NoMemory = false

-- the answer says that the device failed
abbrev pub says_device : {T : Type 0} → Result T StoreError → Bool
says_device (Ok value) = false
says_device (Err error) = is_device error

-- of the answers only these come from calls after the load
abbrev pub IsOutside : StoreError → Type 0
IsOutside Foreign = ⊥
IsOutside (Damaged at) = ⊥
IsOutside (BadRecord at) = ⊥
IsOutside Device = Unit {0}
IsOutside NoMemory = Unit {0}

-- the entries before the one of this number can be read, and it can't
pub record IsFirstBad (at : ℕ) (entries : List (List ℕ)) : Type 0 where
  pub before : Holds (take at entries) (λ held. Unit {0})
  pub here : IsSomeAnd (slice_get entries at) (λ bytes. entry_of bytes ≡ None)

-- why the entries of a log are refused
abbrev pub RefusesEntries : StoreError → List (List ℕ) → Type 0
RefusesEntries Foreign entries = ⊥
RefusesEntries (Damaged at) entries = ⊥
RefusesEntries (BadRecord at) entries = IsFirstBad at entries
RefusesEntries Device entries = ⊥
RefusesEntries NoMemory entries = Unit {0}

-- why a file is refused
abbrev pub RefusesFile : StoreError → List ℕ → Type 0
RefusesFile Foreign file = Refuses log.Foreign file
RefusesFile (Damaged at) file = Refuses (log.Damaged at) file
RefusesFile (BadRecord at) file = IsLog file (entries_of file) × IsFirstBad at (entries_of file)
RefusesFile Device file = Unit {0}
RefusesFile NoMemory file = Unit {0}
