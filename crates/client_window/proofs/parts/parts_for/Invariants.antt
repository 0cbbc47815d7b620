use Rattle.std.proofs.Common.{◌≡◌, ◌++◌, true, length}
use Rattle.std.specs.Prelude.{nat_lt}
use Rattle.std.specs.List.{list_all}
use Rattle.std.specs.Slice.Iter.{iter_rest}
use Rattle.std.specs.Iterator.Adapters.{zip_first, zip_second}
use Rattle.salus_types.specs.Volume.{regions}
use Rattle.volume_model.specs.Contents.{Batch}
use Rattle.client_window.specs.Written.{Leaves}
use Rattle.client_window.specs.Parting.{parts_for}
use Rattle.client_window.proofs.parts.parts_for.Given as goal

abbrev pub invariant-regions : goal.invariant-regions
invariant-regions l =
    ((batch : Batch) → Leaves batch l.last.entries
    → l.parts.items ++ parts_for l.geometry batch l.shared l.numbers (iter_rest (zip_first l.region-iterator)) (iter_rest (zip_second l.region-iterator))
    ≡ parts_for l.geometry batch l.shared l.numbers l.shared.touched l.roots)
    × (list_all (λ g. nat_lt g (regions l.geometry)) (iter_rest (zip_first l.region-iterator)) ≡ true)
