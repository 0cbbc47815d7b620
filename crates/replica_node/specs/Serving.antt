-- What a node has to know of what it holds, so that each change that the rules plan can be stored.
use Rattle.std.specs.Prelude.{◌≡◌, ◌<◌, ℕ, true, List, length, Option}
use Rattle.std.specs.Option.{ForSome}
use Rattle.std.specs.List.{AllByRecursion}
use Rattle.salus_types.specs.Volume.{Shape}
use Rattle.salus_types.specs.declared.records.Record.{Record}
use Rattle.salus_types.specs.declared.records.Held.{Held}
use Rattle.datanode_checkpoint.specs.Folds.{open_bases}
use Rattle.open_session.specs.Kept.{KeptSession}

-- there are blocks, each of that length
pub record AreSized (size : ℕ) (blocks : List (List ℕ)) : Type 0 where
  pub some : 0 < length blocks
  pub each : AllByRecursion (λ block. length block ≡ size) blocks

-- each block of the part has that length
abbrev pub WritesSized : ℕ → Record → Type 0
WritesSized size rec = AllByRecursion (λ w. length w.bytes ≡ size) rec.writes

-- the open session has one base, and its base and its parts have blocks of that length
pub record FoldsWell (size : ℕ) (held : Held) : Type 0 where
  pub one : length (open_bases held) ≡ 1
  pub bases : AllByRecursion (λ base. AreSized size base.blocks) (open_bases held)
  pub parts : AllByRecursion (λ rec. rec.header.session ≡ held.session → WritesSized size rec) held.parts

-- the session is of the volume and the region
abbrev pub IsPlaced : Shape → ℕ → Option KeptSession → Type 0
IsPlaced shape g session = ForSome session (λ kept. (kept.shape ≡ shape) × (kept.region ≡ g))

-- where all that is held of the open session counts, it can be folded
abbrev pub FoldsIn : Shape → Held → Option KeptSession → Type 0
FoldsIn shape held session = ForSome session (λ kept. kept.whole ≡ true → FoldsWell shape.block held)

-- the session is the node's, and what is held can be folded where that may be asked for
pub record Serves (shape : Shape) (g : ℕ) (held : Held) (session : Option KeptSession) : Type 0 where
  pub placed : IsPlaced shape g session
  pub folds : FoldsIn shape held session
