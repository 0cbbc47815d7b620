use Rattle.std.proofs.Common.{◌∙◌, Option, ap, subst}
use Rattle.std.specs.Prelude.{option_map}
use Rattle.replica_node.specs.declared.node.ReplicaNode.{ReplicaNode}
use Rattle.disk_node.specs.Knowing.{seen_of, FitsSeen}
use Rattle.disk_node.specs.Fitting.{FitsIn, seen_in}
use Rattle.disk_node.proofs.Fresh.{there_at}
use Rattle.disk_node.proofs.node.DiskNode.is_silent.Goals as goal

pub returns-in-None : goal.returns-in-None
returns-in-None g c = λ shape name known fits.
    absurd (subst (λ (o : Option (ReplicaNode _ _ _)). FitsIn shape name known (option_map (λ n. seen_of n) o)) c.in-None.is fits.there)

pub returns-in-Some : goal.returns-in-Some
returns-in-Some g c = λ shape name known fits.
    let one : FitsSeen shape name known (seen_of c.in-Some.node) = there_at shape name known (seen_in c.args.self.now) (seen_of c.in-Some.node) (ap (λ (o : Option (ReplicaNode _ _ _)). option_map (λ n. seen_of n) o) c.in-Some.is) fits.there in
    c.is_silent.ensures ∙ one.silent_is
