use Rattle.std.proofs.Common.{◌≡◌, drop}
use Rattle.holding_model.specs.Fitting.{blocks_written}
use Rattle.restart_pool.proofs.replay.put_writes.Given as goal

abbrev pub invariant-writes : goal.invariant-writes
invariant-writes l =
    (l.tree.height ≡ l.initial.tree.height) × (blocks_written l.tree.blocks (drop l.write-index l.writes) ≡ blocks_written l.initial.tree.blocks l.writes)
