-- The bytes that a batch leaves in blocks, as the entries of a map by block.
use Rattle.std.specs.Prelude.{◌≡◌, ℕ, ◌-◌, List, map, Option}
use Rattle.std.specs.Ordering.{nat_cmp}
use Rattle.std.specs.Option.{option_map}
use Rattle.std.specs.Borrow.{Bor}
use Rattle.std.specs.Map.{lookup}
use Rattle.std.specs.BTreeMap.{is_at}
use Rattle.std.specs.BTreeMap.Range.{entries_between}
use Rattle.std.specs.declared.ops.Bound.TheVariants.{Included, Excluded}
use Rattle.salus_types.specs.declared.records.PlaceWrite.{PlaceWrite}
use Rattle.volume_model.specs.Contents.{Batch}
use Rattle.volume_model.specs.Parts.{bytes_left}

-- a block, and where its bytes are
abbrev pub Entry : Type 0
Entry = ℕ × Bor (List ℕ)

-- what the entries have for a block
abbrev pub bytes_in : List Entry → ℕ → Option (List ℕ)
bytes_in entries b = option_map (λ (r : Bor (List ℕ)). r.now) (lookup (is_at (nat_cmp b)) entries)

-- for each block they have what the batch leaves there
abbrev pub Leaves : Batch → List Entry → Type 0
Leaves batch entries = (b : ℕ) → bytes_in entries b ≡ bytes_left batch b

abbrev pub write_of : ℕ → Entry → PlaceWrite
write_of from e = record { place = e.0 - from; bytes = e.1.now }

-- those of the blocks from `from` up to `to`, each at its distance from the first
abbrev pub writes_between : ℕ → ℕ → List Entry → List PlaceWrite
writes_between from to entries = map (write_of from) (entries_between nat_cmp (Included from) (Excluded to) entries)
