use Rattle.open_session.proofs.Fitting.{view-fits, due-fits}
use Rattle.open_session.proofs.answers.next_due.Goals as goal

pub returns-clause-fits : goal.returns-clause-fits
returns-clause-fits c =
    due-fits c.args.replica.now c.due.new.self c.due.result
    (view-fits c.args.replica.now c.view-view.result.now c.geometry-geometry.result.now c.block_size-size.result c.height-height.result c.view-view.ensures c.geometry-geometry.ensures
    c.block_size-size.ensures.value c.block_size-size.ensures.bound c.height-height.ensures.value c.height-height.ensures.bound c.blocks-blocks.ensures.shape)
    c.due.ensures.due
