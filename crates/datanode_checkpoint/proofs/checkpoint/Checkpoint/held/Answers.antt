use Rattle.datanode_store.proofs.Lanes.{live_now}
use Rattle.datanode_checkpoint.proofs.Living.{head_now}
use Rattle.datanode_checkpoint.proofs.checkpoint.Checkpoint.held.Goals as goal

pub returns-clause-means : goal.returns-clause-means
returns-clause-means g c = λ works.
    let store = c.args.self.now.store in
    let h = g.D.Disk.history store.log.disk.disk in
    live_now store.log.disk.lane h store.log.failed store.held works store.means (head_now h store.log.failed store.log.disk.lane works c.args.self.now.head)
