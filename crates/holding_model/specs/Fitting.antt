-- How records fit a volume, and what they do to a region's blocks.
use Rattle.std.specs.Prelude.{ℕ, ◌+◌, ◌%◌, ◌^◌, Bool, true, false, ◌==◌, ◌&&◌, nat_lt, nat_le, List, [], ◌∷◌, ◌++◌, map, length, take, drop, replicate, slice_set, Option, None, Some}
use Rattle.std.specs.List.{list_all}
use Rattle.salus_types.specs.Volume.{Shape, region_blocks}
use Rattle.salus_types.specs.declared.records.PlaceWrite.{PlaceWrite}
use Rattle.salus_types.specs.declared.records.Trim.{Trim}
use Rattle.salus_types.specs.declared.records.Record.{Record}

-- ---- fitting

-- each number is at least the next one that may come
unfoldable pub ascends_from : ℕ → List ℕ → Bool
ascends_from low [] = true
ascends_from low (x ∷ xs) = nat_le low x && ascends_from (x + 1) xs

-- places ascend and lie in the region, and each block has the volume's length
abbrev pub writes_fit : Shape → List PlaceWrite → Bool
writes_fit shape writes =
    ascends_from 0 (map (λ w. w.place) writes) && list_all (λ w. nat_lt w.place (region_blocks shape) && (length w.bytes == shape.block)) writes

-- a run lies in the region, at a multiple of its length
abbrev pub run_fits : Shape → Option Trim → Bool
run_fits shape None = true
run_fits shape (Some t) = nat_le t.log shape.height && nat_lt t.place (region_blocks shape) && (t.place % 2 ^ t.log == 0)

unfoldable pub record_fits : Shape → Record → Bool
record_fits shape rec = writes_fit shape rec.writes && run_fits shape rec.run

-- writes or a run, and not both
abbrev pub has_content : List PlaceWrite → Option Trim → Bool
has_content [] None = false
has_content [] (Some t) = true
has_content (w ∷ writes) None = true
has_content (w ∷ writes) (Some t) = false

unfoldable pub blocks_written : List (List ℕ) → List PlaceWrite → List (List ℕ)
blocks_written blocks [] = blocks
blocks_written blocks (w ∷ writes) = blocks_written (slice_set blocks w.place w.bytes) writes

abbrev pub blocks_zeroed : Shape → List (List ℕ) → Option Trim → List (List ℕ)
blocks_zeroed shape blocks None = blocks
blocks_zeroed shape blocks (Some t) =
    take t.place blocks ++ replicate (2 ^ t.log) (replicate shape.block 0) ++ drop (t.place + 2 ^ t.log) blocks

-- a region's blocks after a record
abbrev pub blocks_after : Shape → List (List ℕ) → Record → List (List ℕ)
blocks_after shape blocks rec = blocks_zeroed shape (blocks_written blocks rec.writes) rec.run

-- one block for each place, each of the volume's length
unfoldable pub has_shape : Shape → List (List ℕ) → Bool
has_shape shape blocks = (length blocks == region_blocks shape) && list_all (λ x. length x == shape.block) blocks
