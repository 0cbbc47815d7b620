-- What a volume holds: a list with one block for each block number. Batches change it, and its digests are taken.
use Rattle.std.specs.Prelude.{ℕ, ◌*◌, ◌/◌, ◌%◌, List, [], ◌∷◌, ◌++◌, map, take, drop, replicate, slice_set, flat_map}
use Rattle.std.specs.List.{range_with_len}
use Rattle.salus_types.specs.Volume.{Shape, regions, region_blocks, blocks}
use Rattle.salus_types.specs.declared.records.Write.{Write}
use Rattle.merkle_region.specs.Tree.{root_of, tree_strings}
use Rattle.merkle_volume.specs.Top.{top_of, top_strings}

-- ---- places

-- a block lies in a region, at a place there
abbrev pub region_of : Shape → ℕ → ℕ
region_of shape b = b / region_blocks shape

abbrev pub place_of : Shape → ℕ → ℕ
place_of shape b = b % region_blocks shape

-- the numbers of the regions
abbrev pub all_regions : Shape → List ℕ
all_regions shape = range_with_len 0 (regions shape)

-- ---- contents

-- the writes of one request, in order
abbrev pub Batch : Type 0
Batch = List Write

-- a volume that was never written
abbrev pub zero_contents : Shape → List (List ℕ)
zero_contents shape = replicate (blocks shape) (replicate shape.block 0)

-- the contents after a batch: of each of its writes in order the bytes become the block of that number
unfoldable pub apply : List (List ℕ) → Batch → List (List ℕ)
apply contents [] = contents
apply contents (w ∷ batch) = apply (slice_set contents w.block w.bytes) batch

-- the contents after these batches, in order
unfoldable pub fold_batches : List (List ℕ) → List Batch → List (List ℕ)
fold_batches contents [] = contents
fold_batches contents (batch ∷ batches) = fold_batches (apply contents batch) batches

-- ---- digests

-- the blocks of a region
abbrev pub blocks_in : Shape → List (List ℕ) → ℕ → List (List ℕ)
blocks_in shape contents g = take (region_blocks shape) (drop (g * region_blocks shape) contents)

abbrev pub region_root : Shape → List (List ℕ) → ℕ → List ℕ
region_root shape contents g = root_of shape.height (blocks_in shape contents g)

-- the roots of all regions
abbrev pub roots_of : Shape → List (List ℕ) → List (List ℕ)
roots_of shape contents = map (λ g. region_root shape contents g) (all_regions shape)

abbrev pub volume_top : Shape → List (List ℕ) → List ℕ
volume_top shape contents = top_of shape.regions_log (roots_of shape contents)

-- every string whose digest is taken for the roots and the top of the contents
abbrev pub contents_strings : Shape → List (List ℕ) → List (List ℕ)
contents_strings shape contents =
    flat_map (λ g. tree_strings shape.height (blocks_in shape contents g)) (all_regions shape) ++ top_strings shape.regions_log (roots_of shape contents)
