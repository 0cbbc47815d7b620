use Rattle.std.proofs.Common.{[], Option, ap, sym, subst}
use Rattle.std.specs.Prelude.{option_map}
use Rattle.std.specs.Option.{option_map_or}
use Rattle.std.proofs.lemmas.Option.{same_Some}
use Rattle.disk_model.specs.Disk.{Through}
use Rattle.datanode_store.specs.Live.{MeansOneLive}
use Rattle.replica_rules.specs.Rules.{Receives}
use Rattle.run_rules.specs.Knowing.{during}
use Rattle.replica_node.specs.declared.node.ReplicaNode.{ReplicaNode}
use Rattle.replica_node.specs.Standing.{history_of}
use Rattle.disk_node.specs.Loadable.{AllLoadable}
use Rattle.disk_node.specs.Knowing.{seen_of, FitsSeen}
use Rattle.disk_node.specs.Fitting.{seen_in}
use Rattle.disk_node.proofs.Fresh.{there_at}
use Rattle.disk_node.proofs.node.DiskNode.receive.Goals as goal

pub invariant_of-self-in-Some : goal.invariant_of-self-in-Some
invariant_of-self-in-Some g c = record {
  loadable = λ x is. subst (λ (n : ReplicaNode _ _ _). AllLoadable (history_of n)) (same_Some _ x is) (c.receive.ensures.loadable (c.args.self.now.loadable c.in-Some.node c.in-Some.is));
}

pub returns-in-Ok-clause-answered : goal.returns-in-Ok-clause-answered
returns-in-Ok-clause-answered g c = λ shape name known fits.
    let one : FitsSeen shape name known (seen_of c.in-Some.node) = there_at shape name known (seen_in c.args.self.now) (seen_of c.in-Some.node) (ap (λ (o : Option (ReplicaNode _ _ _)). option_map (λ n. seen_of n) o) c.in-Some.is) fits.there in
    let by = c.in-Ok.ensures.answered shape name known one in
    record { fits = record { shape_is = fits.shape_is; name_is = fits.name_is; there = by.fits }; outs = by.outs; quiet = by.quiet }

pub returns-in-Ok-clause-any_moment : goal.returns-in-Ok-clause-any_moment
returns-in-Ok-clause-any_moment g c = λ shape name known fits.
    let one : FitsSeen shape name known (seen_of c.in-Some.node) = there_at shape name known (seen_in c.args.self.now) (seen_of c.in-Some.node) (ap (λ (o : Option (ReplicaNode _ _ _)). option_map (λ n. seen_of n) o) c.in-Some.is) fits.there in
    subst (λ (o : Option (ReplicaNode _ _ _)). Through (option_map_or (λ n. history_of n) o []) (history_of c.receive.new.node) (MeansOneLive (during shape name.region known (Receives c.args.from c.args.bytes.now))))
    (sym c.in-Some.is) (c.receive.ensures.any_moment shape name known one)

pub returns-in-Err-clause-any_moment : goal.returns-in-Err-clause-any_moment
returns-in-Err-clause-any_moment g c = λ shape name known fits.
    let one : FitsSeen shape name known (seen_of c.in-Some.node) = there_at shape name known (seen_in c.args.self.now) (seen_of c.in-Some.node) (ap (λ (o : Option (ReplicaNode _ _ _)). option_map (λ n. seen_of n) o) c.in-Some.is) fits.there in
    subst (λ (o : Option (ReplicaNode _ _ _)). Through (option_map_or (λ n. history_of n) o []) (history_of c.receive.new.node) (MeansOneLive (during shape name.region known (Receives c.args.from c.args.bytes.now))))
    (sym c.in-Some.is) (c.receive.ensures.any_moment shape name known one)
