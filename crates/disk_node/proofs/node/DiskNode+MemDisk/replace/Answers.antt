use Rattle.std.proofs.Common.{subst}
use Rattle.std.proofs.lemmas.Option.{same_Some}
use Rattle.disk_model.specs.declared.memory.MemDisk.{MemDisk}
use Rattle.disk_model.specs.Told.{moments_of}
use Rattle.replica_node.specs.declared.node.ReplicaNode.{ReplicaNode}
use Rattle.disk_node.specs.Loadable.{AllLoadable}
use Rattle.disk_node.proofs.node.DiskNode+MemDisk.replace.Goals as goal

pub invariant_of-self : goal.invariant_of-self
invariant_of-self c = record {
  loadable = λ x is. subst (λ (n : ReplicaNode MemDisk _ _). AllLoadable (moments_of n.checkpoint.store.log.disk.disk)) (same_Some _ x is) c.in_ok-node.ensures.loadable;
}
