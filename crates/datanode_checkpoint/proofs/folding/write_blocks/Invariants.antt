use Rattle.std.proofs.Common.{◌≡◌, drop}
use Rattle.holding_model.specs.Fitting.{blocks_written}
use Rattle.datanode_checkpoint.proofs.folding.write_blocks.Given as goal

abbrev pub invariant-writes : goal.invariant-writes
invariant-writes l = blocks_written l.blocks (drop l.write-index l.writes) ≡ blocks_written l.fn.blocks l.writes
