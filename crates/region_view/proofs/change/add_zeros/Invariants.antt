use Rattle.std.proofs.Common.{◌≡◌, ◌++◌}
use Rattle.region_view.specs.Changes.{zero_writes}
use Rattle.region_view.proofs.change.add_zeros.Given as goal

abbrev pub invariant-places : goal.invariant-places
invariant-places l = l.changes.items ≡ l.initial.changes.items ++ zero_writes l.run.place l.i l.size
