use Rattle.std.proofs.Common.{arith}
use Rattle.datanode_checkpoint.proofs.Folded.{written_next, written_end}
use Rattle.datanode_checkpoint.proofs.folding.write_blocks.Goals as goal

pub writes-preserved : goal.writes-preserved
writes-preserved c = written_next c.writes.blocks c.write_one.new.blocks _ c.args.writes.now c.writes.write-index c.write-item.result c.writes-test.true c.write-item.is c.in-Ok.ensures c.writes.invariant

pub returns : goal.returns
returns c = written_end c.writes.blocks _ c.args.writes.now c.writes.write-index (omega (arith, c.writes-test.false)) c.writes.invariant
