-- What a store's file means.
use Rattle.std.specs.Prelude.{◌≡◌, ◌⊎◌, ℕ, ◌<◌, List, length, Some}
use Rattle.std.specs.List.{AllByRecursion}
use Rattle.salus_types.specs.declared.records.Record.{Record}
use Rattle.salus_types.specs.declared.records.Base.{Base}
use Rattle.salus_types.specs.declared.records.Held.{Held}
use Rattle.client_tag.specs.Ranges.{IsRecord, IsBase, IsTyped}
use Rattle.datanode_log.specs.Entries.{entries_of}
use Rattle.datanode_log.specs.Logs.{IsLog}
use Rattle.holding_model.specs.Holding.{held_of}

-- no load refuses the file, and this is held
pub record Means (held : Held) (file : List ℕ) : Type 0 where
  pub log : IsLog file (entries_of file)
  pub holds : held_of (entries_of file) ≡ Some held

-- what was held, or what is
abbrev pub MeansEither : Held → Held → List ℕ → Type 0
MeansEither old new file = Means old file ⊎ Means new file

-- a part that an entry can carry
pub record IsPart (rec : Record) : Type 0 where
  pub ranges : IsRecord rec
  pub typed : IsTyped rec

-- a base that an entry can carry
pub record IsBegun (base : Base) : Type 0 where
  pub ranges : IsBase base
  pub typed : IsTyped base.rec
  pub blocks : 0 < length base.blocks

-- all that is held can be carried by entries
pub record CanBeKept (held : Held) : Type 0 where
  pub bases : AllByRecursion IsBegun held.bases
  pub parts : AllByRecursion IsPart held.parts
