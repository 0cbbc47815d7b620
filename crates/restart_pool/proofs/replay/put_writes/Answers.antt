use Rattle.std.proofs.Common.{◌+◌, ◌∙◌, drop, ap, sym}
use Rattle.holding_model.specs.Fitting.{blocks_written}
use Rattle.restart_pool.proofs.Ascending.{written-on, written-end}
use Rattle.restart_pool.proofs.replay.put_writes.Goals as goal

pub writes-preserved : goal.writes-preserved
writes-preserved c =
    let on = written-on c.writes.tree.blocks c.args.writes.now c.writes.write-index c.write-item.result c.writes-test.true c.write-item.is in (
      c.in_ok-put_write.ensures.height ∙ c.writes.invariant.0,
      ap (λ blocks. blocks_written blocks (drop (c.writes.write-index + 1) c.args.writes.now)) c.in_ok-put_write.ensures.blocks ∙ (sym on ∙ c.writes.invariant.1),
    )

pub returns-clause-blocks : goal.returns-clause-blocks
returns-clause-blocks c = sym (written-end c.writes.tree.blocks c.args.writes.now c.writes.write-index c.writes-test.false) ∙ c.writes.invariant.1
