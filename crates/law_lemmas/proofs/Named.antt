-- Names of nodes that are the same.
use Rattle.std.proofs.Common.{◌≡◌, true, ◌&&◌, ◌==◌, refl, ap₂, eqb-true, eq-eqb}
use Rattle.std.proofs.lemmas.Bool.{and_parts}
use Rattle.salus_types.specs.declared.names.NodeName.{NodeName}
use Rattle.volume_model.specs.Groups.{same_node}

pub one-node : (a b : NodeName) → same_node a b ≡ true → a ≡ b
one-node a b same =
    let s = and_parts (a.region == b.region) (a.replica == b.replica) same in
    let regions : a.region ≡ b.region = eqb-true a.region b.region s.0 in
    let replicas : a.replica ≡ b.replica = eqb-true a.replica b.replica s.1 in
    λ i. record { region = regions i; replica = replicas i }

pub node-itself : (a : NodeName) → same_node a a ≡ true
node-itself a = ap₂ (λ x y. x && y) (eq-eqb a.region a.region refl) (eq-eqb a.replica a.replica refl)
