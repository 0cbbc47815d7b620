use Rattle.disk_model.specs.Told.{content_of}
use Rattle.disk_node.proofs.Readable.{loadable_means, memory_alone}
use Rattle.disk_node.proofs.loading.load.Goals as goal

pub want-requires : goal.want-requires
want-requires c =
    let found = loadable_means (content_of c.args.disk) c.requires.loadable in
    memory_alone c.in-Err.refused.error (c.in-Err.ensures.written found.0 found.1) (c.in-Err.ensures.sure c.requires.unharmed).1
