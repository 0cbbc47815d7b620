use Rattle.std.proofs.Common.{◌≡◌, true, length}
use Rattle.std.specs.Prelude.{nat_lt}
use Rattle.std.specs.List.{list_all}
use Rattle.std.specs.Slice.Iter.{iter_rest}
use Rattle.std.specs.Iterator.Adapters.{zip_first, zip_second}
use Rattle.client_window.specs.Untagged.{with_roots}
use Rattle.client_window.proofs.parts.put_roots.Given as goal

abbrev pub invariant-regions : goal.invariant-regions
invariant-regions l =
    (with_roots (iter_rest (zip_first l.region-iterator)) (iter_rest (zip_second l.region-iterator)) l.tops ≡ with_roots l.touched l.roots l.fn.tops)
    × (list_all (λ g. nat_lt g (length l.tops)) (iter_rest (zip_first l.region-iterator)) ≡ true)
