use Rattle.holding_model.specs.Changing.{FoldsTo, changed}
use Rattle.datanode_store.proofs.Lanes.{same_live}
use Rattle.datanode_checkpoint.proofs.Living.{head_now}
use Rattle.datanode_checkpoint.proofs.checkpoint.Checkpoint.fold_some.Goals as goal

pub refold-requires-clause-head : goal.refold-requires-clause-head
refold-requires-clause-head g c =
    let store = c.args.self.now.store in
    head_now (g.D.Disk.history store.log.disk.disk) store.log.failed store.log.disk.lane c.requires.working c.args.self.now.head

pub returns-in-Err-clause-any_moment : goal.returns-in-Err-clause-any_moment
returns-in-Err-clause-any_moment g c = λ shape.
    let store = c.args.self.now.store in
    let h = g.D.Disk.history store.log.disk.disk in
    same_live store.log.disk.lane h store.log.failed store.held (changed shape store.held (FoldsTo c.args.seq)) c.requires.working store.means (head_now h store.log.failed store.log.disk.lane c.requires.working c.args.self.now.head)
