use Rattle.std.proofs.Common.{◌≡◌, ◌^◌, reverse, vec_len}
use Rattle.holding_model.specs.Fitting.{blocks_written}
use Rattle.region_view.specs.Changes.{AreWithin}
use Rattle.region_view.proofs.change.put_back.Given as goal

abbrev pub invariant-changes : goal.invariant-changes
invariant-changes l = record {
  height : l.tree.height ≡ l.initial.tree.height;
  within : AreWithin (2 ^ l.tree.height) l.changes.items;
  left : blocks_written l.tree.blocks (reverse l.changes.items) ≡ blocks_written l.initial.tree.blocks (reverse l.initial.changes.items);
}

abbrev pub decreases-changes : goal.decreases-changes
decreases-changes l = vec_len l.changes
