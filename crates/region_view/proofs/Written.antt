-- What writes in a row leave of a region's blocks.
use Rattle.std.proofs.Common.{◌≡◌, ◌∙◌, ℕ, List, [], ◌∷◌, ◌++◌, length, refl}
use Rattle.std.specs.Prelude.{slice_set}
use Rattle.std.proofs.lemmas.List.{length-set, set-set, set-get_or}
use Rattle.salus_types.specs.declared.records.PlaceWrite.{PlaceWrite}
use Rattle.merkle_region.specs.Tree.{block_at}
use Rattle.holding_model.specs.Fitting.{blocks_written}

pub blocks_written-none : (blocks : List (List ℕ)) → blocks_written blocks [] ≡ blocks
unfolding blocks_written
blocks_written-none blocks = refl

pub blocks_written-cons : (blocks : List (List ℕ)) (w : PlaceWrite) (writes : List PlaceWrite) → blocks_written blocks (w ∷ writes) ≡ blocks_written (slice_set blocks w.place w.bytes) writes
unfolding blocks_written
blocks_written-cons blocks w writes = refl

pub blocks_written-append : (blocks : List (List ℕ)) (first second : List PlaceWrite) → blocks_written blocks (first ++ second) ≡ blocks_written (blocks_written blocks first) second
unfolding blocks_written
blocks_written-append blocks [] second = refl
blocks_written-append blocks (w ∷ first) second = blocks_written-append (slice_set blocks w.place w.bytes) first second

pub length-blocks_written : (blocks : List (List ℕ)) (writes : List PlaceWrite) → length (blocks_written blocks writes) ≡ length blocks
unfolding blocks_written
length-blocks_written blocks [] = refl
length-blocks_written blocks (w ∷ writes) = length-blocks_written (slice_set blocks w.place w.bytes) writes ∙ length-set blocks w.place w.bytes

-- a block that is put, and then the one that stood there
pub set_back : (blocks : List (List ℕ)) (i : ℕ) (block : List ℕ) → slice_set (slice_set blocks i block) i (block_at blocks i) ≡ blocks
set_back blocks i block = set-set blocks i block (block_at blocks i) ∙ set-get_or blocks i []
