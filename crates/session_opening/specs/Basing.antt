-- The bases with which a session starts: their records, made from roots, and the blocks that they carry.
use Rattle.std.specs.Prelude.{◌≡◌, ℕ, ◌<◌, List, [], All, length, replicate, slice_index_or, flat_map, None}
use Rattle.std.specs.List.{AllByRecursion}
use Rattle.salus_types.specs.Volume.{Shape, regions, blocks}
use Rattle.salus_types.specs.declared.records.Header.{Header}
use Rattle.salus_types.specs.declared.records.Record.{Record}
use Rattle.salus_message.specs.declared.wire.Message.TheVariants as message
use Rattle.merkle_volume.specs.Top.{top_of}
use Rattle.client_tag.specs.Ranges.{AreBlocks, IsRecord}
use Rattle.client_tag.specs.Tags.{sealed}
use Rattle.volume_model.specs.Contents.{all_regions, blocks_in}
use Rattle.volume_model.specs.Groups.{group_of}
use Rattle.client_rules.specs.State.{Letter, to_all}
use Rattle.client_rules.specs.Opening.{fetched_blocks}
use Rattle.session_opening.specs.declared.carried.Carried.{Carried}
use Rattle.session_opening.specs.declared.carried.Carried.TheVariants as carried

-- ---- records

-- the header of a region's base with these digests
abbrev pub header_by : Shape → ℕ → ℕ → ℕ → List ℕ → List ℕ → Header
header_by shape e seq g root top = record {
  version = 1;
  session = e;
  seq = seq;
  region = g;
  previous = 0;
  leader_before = 0;
  fronts = replicate (regions shape) seq;
  touched = all_regions shape;
  root = root;
  top = top;
}

-- the record with which session e starts in a region, from the roots of all regions
abbrev pub base_by : Shape → List ℕ → ℕ → ℕ → List (List ℕ) → ℕ → Record
base_by shape key e seq roots g =
    sealed key (record { header = header_by shape e seq g (slice_index_or roots g []) (top_of shape.regions_log roots); writes = []; run = None; tag = replicate 32 0 })

-- it has a spelling, and is of a region of the volume
pub record IsBaseOf (shape : Shape) (rec : Record) : Type 0 where
  pub spelled : IsRecord rec
  pub within : rec.header.region < regions shape

abbrev pub AreBases : Shape → List Record → Type 0
AreBases shape records = All (IsBaseOf shape) records

-- ---- blocks

-- what the base of a region carries
abbrev pub carried_by : Shape → Carried → ℕ → List (List ℕ)
carried_by shape (carried.Volume contents) g = blocks_in shape contents g
carried_by shape (carried.Region own contents) g = fetched_blocks own contents g

-- all blocks of the volume, each of its length, or blocks that a message may carry
abbrev pub IsLoaded : Shape → Carried → Type 0
IsLoaded shape (carried.Volume contents) = (length contents ≡ blocks shape) × AllByRecursion (λ x. length x ≡ shape.block) contents
IsLoaded shape (carried.Region own contents) = AreBlocks contents

-- ---- letters

-- a region's base goes to its replicas
abbrev pub base_letters : Shape → Record → List (List ℕ) → List Letter
base_letters shape rec contents = to_all (group_of shape rec.header.region) (message.Stage (record { base = record { rec = rec; blocks = contents } }))

abbrev pub letters_of : Shape → Carried → Record → List Letter
letters_of shape load rec = base_letters shape rec (carried_by shape load rec.header.region)

-- so does each base
abbrev pub all_letters : Shape → Carried → List Record → List Letter
all_letters shape load records = flat_map (λ rec. letters_of shape load rec) records
