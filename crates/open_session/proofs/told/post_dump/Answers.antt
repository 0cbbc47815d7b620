use Rattle.open_session.proofs.Fitting.{dump-fits}
use Rattle.open_session.proofs.told.post_dump.Goals as goal

pub encode_dumped-requires : goal.encode_dumped-requires
encode_dumped-requires c =
    dump-fits c.args.view.now c.geometry-geometry.result.now c.block_size-size.result c.height-height.result c.blocks-2.result.now c.geometry-geometry.ensures
    c.block_size-size.ensures.value c.block_size-size.ensures.bound c.height-height.ensures.value c.height-height.ensures.bound c.blocks-2.ensures.value c.blocks-2.ensures.shape
