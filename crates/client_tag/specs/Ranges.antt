-- Which records and blocks have a spelling: counts and lengths in their ranges, and each number in its width.
use Rattle.std.specs.Prelude.{◌≡◌, ℕ, ◌≤◌, ◌<◌, ◌^◌, List, length, All, None}
use Rattle.std.specs.List.{AllByRecursion}
use Rattle.salus_types.specs.declared.records.Header.{Header}
use Rattle.salus_types.specs.declared.records.PlaceWrite.{PlaceWrite}
use Rattle.salus_types.specs.declared.records.Record.{Record}
use Rattle.salus_types.specs.declared.records.Base.{Base}
use Rattle.client_tag.specs.Spelling.{size_of}

-- a number from low to high
abbrev pub IsBetween : ℕ → ℕ → ℕ → Type 0
IsBetween low high n = (low ≤ n) × (n ≤ high)

-- the version is 1, and there are 1 to 16 regions
pub record IsHeader (h : Header) : Type 0 where
  pub first_version : IsBetween 1 1 h.version
  pub few_fronts : IsBetween 1 16 (length h.fronts)
  pub few_touched : IsBetween 1 16 (length h.touched)

-- a block has 1 to 4,096 bytes
abbrev pub IsWrite : PlaceWrite → Type 0
IsWrite w = IsBetween 1 4096 (length w.bytes)

-- at most 64 writes, and no run
pub record IsRecord (r : Record) : Type 0 where
  pub its_header : IsHeader r.header
  pub few_writes : IsBetween 0 64 (length r.writes)
  pub small_writes : All IsWrite r.writes
  pub no_run : r.run ≡ None

-- at most 4,096 blocks of one size, from 1 to 4,096
pub record AreBlocks (blocks : List (List ℕ)) : Type 0 where
  pub few_blocks : length blocks ≤ 4096
  pub one_size : All (λ block. length block ≡ size_of blocks) blocks
  pub small_blocks : All (λ block. IsBetween 1 4096 (length block)) blocks

pub record IsBase (b : Base) : Type 0 where
  pub its_record : IsRecord b.rec
  pub its_blocks : AreBlocks b.blocks

-- The numbers are in the widths of their fields and the digests have 32 bytes, as those of the program are.
pub record HasWidths (h : Header) : Type 0 where
  pub version_width : h.version < 2 ^ 8
  pub session_width : h.session < 2 ^ 64
  pub seq_width : h.seq < 2 ^ 64
  pub region_width : h.region < 2 ^ 16
  pub previous_width : h.previous < 2 ^ 64
  pub leader_width : h.leader_before < 2 ^ 16
  pub fronts_width : AllByRecursion (λ n. n < 2 ^ 64) h.fronts
  pub touched_width : AllByRecursion (λ n. n < 2 ^ 16) h.touched
  pub root_width : length h.root ≡ 32
  pub top_width : length h.top ≡ 32

pub record IsTyped (r : Record) : Type 0 where
  pub header_typed : HasWidths r.header
  pub places_width : AllByRecursion (λ w. w.place < 2 ^ 16) r.writes
  pub tag_width : length r.tag ≡ 32
