use Rattle.datanode_store.proofs.Kept.{images_now}
use Rattle.datanode_store.proofs.store.Store.held.Goals as goal

pub returns-clause-means : goal.returns-clause-means
returns-clause-means g c = λ works.
    let store = c.args.self.now in
    images_now (g.D.Disk.history store.log.disk) store.log.failed store.held works store.means
