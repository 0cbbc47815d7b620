use Rattle.std.proofs.Common.{Option, ◌∙◌, ap, sym, subst}
use Rattle.std.proofs.lemmas.Option.{same_Some}
use Rattle.disk_model.specs.Told.{moments_of}
use Rattle.disk_node.specs.Loadable.{AllLoadable}
use Rattle.std.specs.Prelude.{option_map}
use Rattle.disk_model.specs.declared.memory.MemDisk.{MemDisk}
use Rattle.replica_node.specs.declared.node.ReplicaNode.{ReplicaNode}
use Rattle.disk_node.specs.Knowing.{seen_of, FitsSeen}
use Rattle.disk_node.specs.Fitting.{seen_in}
use Rattle.disk_node.proofs.Fresh.{there_at}
use Rattle.disk_node.proofs.node.DiskNode+MemDisk.crash.Goals as goal

pub returns-in_ok-node-in-Some-clause-reloaded : goal.returns-in_ok-node-in-Some-clause-reloaded
returns-in_ok-node-in-Some-clause-reloaded c = λ shape name known fits.
    let one : FitsSeen shape name known (seen_of c.in-Some.node) = there_at shape name known (seen_in c.args.self.now) (seen_of c.in-Some.node) (ap (λ (o : Option (ReplicaNode MemDisk _ _)). option_map (λ n. seen_of n) o) (sym c.take.ensures.value ∙ c.in-Some.is)) fits.there in
    let by = c.in_ok-node-in-Some.ensures.loaded shape name known one in
    record { among = by.among; fits = record { shape_is = fits.shape_is; name_is = fits.name_is; there = by.fits } }

pub restart-requires : goal.restart-requires
restart-requires c = c.args.self.now.loadable c.in-Some.node (sym c.take.ensures.value ∙ c.in-Some.is)

pub invariant_of-self-in-Some : goal.invariant_of-self-in-Some
invariant_of-self-in-Some c = record {
  loadable = λ x is. subst (λ (n : ReplicaNode MemDisk _ _). AllLoadable (moments_of n.checkpoint.store.log.disk.disk)) (same_Some _ x is) c.in_ok-node-in-Some.ensures.loadable;
}
