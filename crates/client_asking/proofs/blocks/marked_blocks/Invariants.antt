use Rattle.std.proofs.Common.{◌≡◌, ℕ, ◌<◌, ◌==◌, false, length, take}
use Rattle.std.specs.Prelude.{slice_index_or}
use Rattle.std.specs.List.{list_any}
use Rattle.salus_types.specs.Volume.{blocks}
use Rattle.salus_types.specs.declared.records.Write.{Write}
use Rattle.client_asking.proofs.blocks.marked_blocks.Given as goal

abbrev pub invariant-writes : goal.invariant-writes
invariant-writes l =
    (length l.marks.items ≡ blocks l.geometry)
    × ((b : ℕ) → b < blocks l.geometry → slice_index_or l.marks.items b false ≡ list_any (λ (w : Write). w.block == b) (take l.write-index l.batch))
