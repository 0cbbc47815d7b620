use Rattle.open_session.proofs.Fitting.{view-fits, ask-fits}
use Rattle.open_session.proofs.Staying.{asked-stays}
use Rattle.open_session.proofs.answers.take_ask.Goals as goal

pub returns-clause-fits : goal.returns-clause-fits
returns-clause-fits c =
    ask-fits c.args.replica.now c.take_ask.new.self c.args.ask c.take_ask.result
    (view-fits c.args.replica.now c.view-view.result.now c.geometry-geometry.result.now c.block_size-size.result c.height-height.result c.view-view.ensures c.geometry-geometry.ensures
    c.block_size-size.ensures.value c.block_size-size.ensures.bound c.height-height.ensures.value c.height-height.ensures.bound c.blocks-blocks.ensures.shape)
    c.take_ask.ensures.taken

pub returns-clause-stays : goal.returns-clause-stays
returns-clause-stays c = asked-stays c.args.replica.now c.take_ask.new.self c.args.ask c.take_ask.result c.take_ask.ensures.taken c.take_ask.ensures.err
