-- Nodes of a volume by number: each has its own, and stands in its region's group.
use Rattle.std.proofs.Common.{◌≡◌, ◌∙◌, ℕ, ◌+◌, ◌*◌, ◌/◌, ◌%◌, ◌<◌, ◌≤◌, ◌==◌, true, List, sym, ap, arith}
use Rattle.std.proofs.lemmas.Bool.{eqb-true}
use Rattle.std.proofs.lemmas.Nat.{div-mul-add, div-add-mod'}
use Rattle.std.proofs.Math.Nat.{mod-lt}
use Rattle.salus_types.specs.Volume.{Shape, IsVolume}
use Rattle.salus_types.specs.declared.names.NodeName.{NodeName}
use Rattle.schedule_text.specs.Limits.{IsOfVolume}
use Rattle.schedule_text.specs.declared.schedule.Event.{Event}
use Rattle.volume_model.specs.Groups.{same_node}
use Rattle.list_lemmas.proofs.Members.{among_map-in, among_range-in}
use Rattle.list_lemmas.proofs.Tests.{and_left, and_right}
use Rattle.kept_model.specs.Nodes.{node_number, region_of_node, node_of, volume_as}
use Rattle.law_refined.specs.Stepping.{IsNumbered}

module _ (shape : Shape) (limits : IsVolume shape) where
  some_replicas : 0 < shape.replicas
  some_replicas = let one : 1 ≤ shape.replicas = limits.small_groups.0 in omega arith

  -- a number is that of its node
  pub number_of_node : (r : ℕ) → node_number shape (node_of shape r) ≡ r
  number_of_node r = div-add-mod' r shape.replicas

  pub region_numbered : (name : NodeName) → IsOfVolume shape name → region_of_node shape (node_number shape name) ≡ name.region
  region_numbered name inside = div-mul-add name.region shape.replicas name.replica inside.1

  pub node_numbered : (name : NodeName) → IsOfVolume shape name → node_of shape (node_number shape name) ≡ name
  node_numbered name inside =
      let region : node_number shape name / shape.replicas ≡ name.region = region_numbered name inside in
      let whole : node_number shape name / shape.replicas * shape.replicas + node_number shape name % shape.replicas ≡ node_number shape name = div-add-mod' (node_number shape name) shape.replicas in
      let both : name.region * shape.replicas + node_number shape name % shape.replicas ≡ name.region * shape.replicas + name.replica =
      sym (ap (λ x. x * shape.replicas + node_number shape name % shape.replicas) region) ∙ whole in
      let replica : node_number shape name % shape.replicas ≡ name.replica = omega arith in
      ap (λ (g : ℕ). record { region = g; replica = node_number shape name % shape.replicas }) region ∙ ap (λ (x : ℕ). record { region = name.region; replica = x }) replica

  pub all_numbered : (events : List Event) → IsNumbered shape (volume_as shape events)
  all_numbered events r honest =
      let inside : r % shape.replicas < shape.replicas = mod-lt r some_replicas in
      among_map-in (λ (k : ℕ). record { region = r / shape.replicas; replica = k }) _ (r % shape.replicas) (among_range-in shape.replicas 0 (r % shape.replicas) (omega arith) (omega arith))

pub node_is : (a b : NodeName) → same_node a b ≡ true → a ≡ b
node_is a b e =
    let region : a.region ≡ b.region = eqb-true a.region b.region (and_left (a.region == b.region) (a.replica == b.replica) e) in
    let replica : a.replica ≡ b.replica = eqb-true a.replica b.replica (and_right (a.region == b.region) (a.replica == b.replica) e) in
    ap (λ (g : ℕ). record { region = g; replica = a.replica }) region ∙ ap (λ (r : ℕ). record { region = b.region; replica = r }) replica
