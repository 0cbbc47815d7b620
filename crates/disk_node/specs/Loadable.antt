-- Which files a load takes.
use Rattle.std.specs.Prelude.{◌≡◌, ℕ, ◌≤◌, true, List, ◌∷◌, length, take, is_some}
use Rattle.disk_model.specs.Disk.{Moment, History, EachImage}
use Rattle.disk_lane.specs.Heads.{file_mark, live_bytes}
use Rattle.datanode_log.specs.Entries.{entries_of}
use Rattle.datanode_log.specs.Logs.{IsLog}
use Rattle.holding_model.specs.Holding.{held_of}

-- no load refuses the file
pub record CanBeLoaded (file : List ℕ) : Type 0 where
  pub long : 16 ≤ length file
  pub marked : take 8 file ≡ file_mark
  pub log : IsLog (live_bytes file) (entries_of (live_bytes file))
  pub holds : is_some (held_of (entries_of (live_bytes file))) ≡ true

-- each image that the disk may leave now is such a file, where it tells what it holds
abbrev pub AllLoadable : History → Type 0
AllLoadable history = (now : Moment) (past : List Moment) → history ≡ now ∷ past → EachImage now CanBeLoaded
