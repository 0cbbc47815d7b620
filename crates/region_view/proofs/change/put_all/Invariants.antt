use Rattle.std.proofs.Common.{◌≡◌}
use Rattle.region_view.proofs.Putting.{ArePut}
use Rattle.region_view.proofs.change.put_all.Given as goal

abbrev pub invariant-changes : goal.invariant-changes
invariant-changes l = record {
  height : l.tree.height ≡ l.initial.tree.height;
  put : ArePut l.initial.tree.blocks l.initial.changes l.tree.blocks l.changes l.change-index;
}
