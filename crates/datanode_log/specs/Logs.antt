-- What a file says as a log.
use Rattle.std.specs.Prelude.{◌≡◌, ◌≢◌, ◌⊎◌, ℕ, ◌<◌, ◌≤◌, List, [], ◌∷◌, ◌++◌, length, take, Some, None}
use Rattle.disk_model.specs.Disk.{History}
use Rattle.disk_lane.specs.Heads.{file_mark, live_bytes}
use Rattle.datanode_log.specs.declared.error.LogError.{LogError}
use Rattle.datanode_log.specs.declared.error.LogError.TheVariants.{Foreign, Damaged, Device, NoMemory}
use Rattle.datanode_log.specs.Entries.{mark, entries_of, damage_of}

-- too short for a log, or with another mark
abbrev pub IsForeign : List ℕ → Type 0
IsForeign file = (length file < 9) ⊎ (take 8 file ≢ mark)

-- the file is a log, no gate of it is damaged, and its entries are these
pub record IsLog (file : List ℕ) (entries : List (List ℕ)) : Type 0 where
  pub long : 9 ≤ length file
  pub marked : take 8 file ≡ mark
  pub whole : damage_of file ≡ None
  pub entries_are : entries_of file ≡ entries

-- a log of these entries, or of these and a new one
abbrev pub IsBeforeOrAfter : List (List ℕ) → List ℕ → List ℕ → Type 0
IsBeforeOrAfter entries entry file = IsLog file entries ⊎ IsLog file (entries ++ entry ∷ [])

-- the entries that a read gives
abbrev pub entries_now : History → List (List ℕ)
entries_now [] = []
entries_now (now ∷ past) = entries_of now.seen

-- why a file is refused
abbrev pub Refuses : LogError → List ℕ → Type 0
Refuses Foreign file = IsForeign file
Refuses (Damaged at) file = (9 ≤ length file) × (take 8 file ≡ mark) × (damage_of file ≡ Some at)
Refuses Device file = Unit {0}
Refuses NoMemory file = Unit {0}

-- a file of two lanes, of which the live one is a log of these entries
pub record IsLiveLog (entries : List (List ℕ)) (file : List ℕ) : Type 0 where
  pub long : 16 ≤ length file
  pub marked : take 8 file ≡ file_mark
  pub log : IsLog (live_bytes file) entries

-- the one log or the other
abbrev pub IsLiveEither : List (List ℕ) → List (List ℕ) → List ℕ → Type 0
IsLiveEither old new file = IsLiveLog old file ⊎ IsLiveLog new file
