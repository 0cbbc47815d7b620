-- Disks in memory, before they are formatted.
use Rattle.std.specs.Prelude.{◌≡◌, ℕ, [], List, length, IsTrue}
use Rattle.std.specs.List.{AllByRecursion}
use Rattle.disk_model.specs.declared.memory.MemDisk.{MemDisk}
use Rattle.disk_model.specs.Failures.{is_unharmed}
use Rattle.disk_model.specs.Told.{now_of}

-- so many, which hold nothing, and of which no call is to fail
pub record AreEmpty (count : ℕ) (disks : List MemDisk) : Type 0 where
  pub long : length disks ≡ count
  pub hold : AllByRecursion (λ disk. (now_of disk).seen ≡ []) disks
  pub sure : AllByRecursion (λ disk. IsTrue (is_unharmed disk.failures)) disks
