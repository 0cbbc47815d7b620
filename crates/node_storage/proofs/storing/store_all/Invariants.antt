use Rattle.std.proofs.Common.{◌≡◌, false}
use Rattle.datanode_log.specs.Causes.{KeepsSure}
use Rattle.node_storage.proofs.Steps.{IsStoring}
use Rattle.node_storage.proofs.storing.store_all.Given as goal

abbrev pub invariant-changes : goal.invariant-changes
invariant-changes g l = record {
  works : l.checkpoint.store.log.failed ≡ false;
  storing : IsStoring l.changes l.change-index l.initial.checkpoint.store.held l.checkpoint.store.held (g.D.Disk.history l.initial.checkpoint.store.log.disk.disk) (g.D.Disk.history l.checkpoint.store.log.disk.disk);
  none : l.change-index ≡ 0 → l.checkpoint ≡ l.initial.checkpoint;
  faults : g.D.Disk.faults l.checkpoint.store.log.disk.disk ≡ g.D.Disk.faults l.initial.checkpoint.store.log.disk.disk;
  sure : KeepsSure (g.D.Disk.is_sure l.initial.checkpoint.store.log.disk.disk) (g.D.Disk.is_sure l.checkpoint.store.log.disk.disk) false;
}
