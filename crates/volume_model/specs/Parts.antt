-- The records of a session: of each batch a part for each region that it touches, and a base record for each region.
use Rattle.std.specs.Prelude.{ℕ, ◌+◌, ◌-◌, ◌*◌, Bool, ◌==◌, if◌then◌else◌, List, [], ◌∷◌, map, take, drop, replicate, slice_index, slice_index_or, filter, filter_map, Option, None, Some}
use Rattle.std.specs.List.{list_any, range_with_len}
use Rattle.std.specs.Option.{option_or}
use Rattle.salus_types.specs.Volume.{Shape, regions, region_blocks, blocks}
use Rattle.salus_types.specs.declared.records.PlaceWrite.{PlaceWrite}
use Rattle.salus_types.specs.declared.records.Header.{Header}
use Rattle.salus_types.specs.declared.records.Record.{Record}
use Rattle.salus_types.specs.declared.records.Base.{Base}
use Rattle.volume_model.specs.Contents.{Batch, region_of, all_regions, fold_batches, region_root, blocks_in, volume_top}
use Rattle.client_tag.specs.Tags.{sealed}

-- A session that is known: the contents before all batches, the batches in order, and how many of them it starts with.
pub record Session : Type 0 where
  pub session : ℕ
  pub base : ℕ
  pub origin : List (List ℕ)
  pub list : List Batch

-- the contents after its first s batches
abbrev pub contents_after : Session → ℕ → List (List ℕ)
contents_after known s = fold_batches known.origin (take s known.list)

-- ---- a batch

abbrev pub touches : Shape → Batch → ℕ → Bool
touches shape batch g = list_any (λ w. region_of shape w.block == g) batch

-- the regions that it touches, ascending
abbrev pub touched_by : Shape → Batch → List ℕ
touched_by shape batch = filter (λ g. touches shape batch g) (all_regions shape)

-- its leader: the lowest of them
abbrev pub leader_of : Shape → Batch → ℕ
leader_of shape batch = slice_index (touched_by shape batch) 0

-- the blocks that it writes, ascending and each once
abbrev pub blocks_of : Shape → Batch → List ℕ
blocks_of shape batch = filter (λ b. list_any (λ w. w.block == b) batch) (range_with_len 0 (blocks shape))

-- the bytes that it leaves in a block: a later write wins
unfoldable pub bytes_left : Batch → ℕ → Option (List ℕ)
bytes_left [] b = None
bytes_left (w ∷ batch) b = option_or (bytes_left batch b) (if w.block == b then Some w.bytes else None)

abbrev pub placed : ℕ → Option (List ℕ) → Option PlaceWrite
placed i None = None
placed i (Some bytes) = Some (record { place = i; bytes = bytes })

-- its part in a region, by ascending places
abbrev pub writes_in : Shape → Batch → ℕ → List PlaceWrite
writes_in shape batch g = filter_map (λ i. placed i (bytes_left batch (g * region_blocks shape + i))) (range_with_len 0 (region_blocks shape))

-- ---- numbers

-- the last of these batches that touches the region; they are numbered from j on, and before them it is `last`
unfoldable pub last_touch : Shape → ℕ → ℕ → ℕ → List Batch → ℕ
last_touch shape g last j [] = last
last_touch shape g last j (batch ∷ batches) = last_touch shape g (if touches shape batch g then j else last) (j + 1) batches

-- a region's number after the first s batches of a session
abbrev pub number_of : Shape → Session → ℕ → ℕ → ℕ
number_of shape known s g = last_touch shape g known.base (known.base + 1) (drop known.base (take s known.list))

-- batch s of a session
abbrev pub batch_at : Session → ℕ → Batch
batch_at known s = slice_index_or known.list (s - 1) []

-- the leader of the batch before s, and 0 before the first
abbrev pub leader_before : Shape → Session → ℕ → ℕ
leader_before shape known s = if s - 1 == known.base then 0 else leader_of shape (batch_at known (s - 1))

-- ---- records

abbrev pub part_header : Shape → Session → ℕ → ℕ → Header
part_header shape known s g = record {
  version = 1;
  session = known.session;
  seq = s;
  region = g;
  previous = number_of shape known (s - 1) g;
  leader_before = leader_before shape known s;
  fronts = map (λ r. number_of shape known s r) (all_regions shape);
  touched = touched_by shape (batch_at known s);
  root = region_root shape (contents_after known s) g;
  top = volume_top shape (contents_after known s);
}

-- the part of batch s for a region
unfoldable pub part_of : Shape → List ℕ → Session → ℕ → ℕ → Record
part_of shape key known s g =
    sealed key (record { header = part_header shape known s g; writes = writes_in shape (batch_at known s) g; run = None; tag = replicate 32 0 })

abbrev pub base_header : Shape → Session → ℕ → Header
base_header shape known g = record {
  version = 1;
  session = known.session;
  seq = known.base;
  region = g;
  previous = 0;
  leader_before = 0;
  fronts = replicate (regions shape) known.base;
  touched = all_regions shape;
  root = region_root shape (contents_after known known.base) g;
  top = volume_top shape (contents_after known known.base);
}

-- the record with which a session starts in a region
unfoldable pub base_of : Shape → List ℕ → Session → ℕ → Record
base_of shape key known g = sealed key (record { header = base_header shape known g; writes = []; run = None; tag = replicate 32 0 })

-- the same with the region's blocks
abbrev pub whole_base : Shape → List ℕ → Session → ℕ → Base
whole_base shape key known g = record { rec = base_of shape key known g; blocks = blocks_in shape (contents_after known known.base) g }
