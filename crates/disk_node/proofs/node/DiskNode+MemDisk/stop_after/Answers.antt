use Rattle.std.proofs.Common.{sym, subst}
use Rattle.std.proofs.lemmas.Option.{same_Some}
use Rattle.disk_model.specs.declared.memory.MemDisk.{MemDisk}
use Rattle.disk_model.specs.Disk.{History}
use Rattle.disk_model.specs.Told.{moments_of}
use Rattle.replica_node.specs.declared.node.ReplicaNode.{ReplicaNode}
use Rattle.disk_node.specs.Loadable.{AllLoadable}
use Rattle.disk_node.proofs.node.DiskNode+MemDisk.stop_after.Goals as goal

pub invariant_of-self-in-Some : goal.invariant_of-self-in-Some
invariant_of-self-in-Some c = record {
  loadable = λ x is.
      subst (λ (n : ReplicaNode MemDisk _ _). AllLoadable (moments_of n.checkpoint.store.log.disk.disk)) (same_Some _ x is)
      (subst (λ (h : History). AllLoadable h) (sym c.stop_after.ensures.moments) (c.args.self.now.loadable c.in-Some.node c.in-Some.is));
}
