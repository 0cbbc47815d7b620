-- How records and bases are spelled: the fields in order, and before each list its count.
use Rattle.std.specs.Prelude.{ℕ, List, [], ◌∷◌, ◌++◌, length}
use Rattle.std.specs.List.{flat_map}
use Rattle.salus_types.specs.declared.records.Header.{Header}
use Rattle.salus_types.specs.declared.records.PlaceWrite.{PlaceWrite}
use Rattle.salus_types.specs.declared.records.Record.{Record}
use Rattle.salus_types.specs.declared.records.Base.{Base}
use Rattle.salus_codec.specs.Spelling.{be1, be2, be4, be8}

-- which batch of which session, and which region
unfoldable pub batch_bytes : Header → List ℕ
batch_bytes h = be1 h.version ++ (be8 h.session ++ (be8 h.seq ++ be2 h.region))

-- what comes before the batch
unfoldable pub before_bytes : Header → List ℕ
before_bytes h = be8 h.previous ++ be2 h.leader_before

-- a count of one byte, and as many numbers
unfoldable pub numbers_bytes : List ℕ → List ℕ
numbers_bytes numbers = be1 (length numbers) ++ flat_map be8 numbers

-- a count of one byte, and as many regions
unfoldable pub regions_bytes : List ℕ → List ℕ
regions_bytes regions = be1 (length regions) ++ flat_map be2 regions

-- the regions after the batch, and the digests
unfoldable pub after_bytes : Header → List ℕ
after_bytes h = numbers_bytes h.fronts ++ (regions_bytes h.touched ++ (h.root ++ h.top))

unfoldable pub header_bytes : Header → List ℕ
header_bytes h = batch_bytes h ++ (before_bytes h ++ after_bytes h)

-- place, length and bytes
unfoldable pub write_bytes : PlaceWrite → List ℕ
write_bytes w = be2 w.place ++ (be2 (length w.bytes) ++ w.bytes)

-- a count of one byte, and as many writes
unfoldable pub writes_bytes : List PlaceWrite → List ℕ
writes_bytes writes = be1 (length writes) ++ flat_map write_bytes writes

-- a record without its tag
unfoldable pub payload_bytes : Record → List ℕ
payload_bytes r = header_bytes r.header ++ writes_bytes r.writes

unfoldable pub record_bytes : Record → List ℕ
record_bytes r = payload_bytes r ++ r.tag

-- the size of each of the blocks; 0 where there is none
abbrev pub size_of : List (List ℕ) → ℕ
size_of [] = 0
size_of (block ∷ blocks) = length block

-- the blocks one after the other
abbrev pub joined : List (List ℕ) → List ℕ
joined blocks = flat_map (λ block. block) blocks

-- a count of four bytes, a size of two bytes, and the blocks
unfoldable pub blocks_bytes : List (List ℕ) → List ℕ
blocks_bytes blocks = be4 (length blocks) ++ (be2 (size_of blocks) ++ joined blocks)

unfoldable pub base_bytes : Base → List ℕ
base_bytes b = record_bytes b.rec ++ blocks_bytes b.blocks
