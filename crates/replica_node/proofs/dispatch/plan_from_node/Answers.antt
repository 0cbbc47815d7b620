use Rattle.std.proofs.Common.{◌≡◌, refl, sym, subst, ⊎_elim}
use Rattle.std.specs.Prelude.{IfOk}
use Rattle.salus_message.specs.declared.wire.Message.{Message}
use Rattle.salus_message.specs.declared.wire.Message.TheVariants as message
use Rattle.replica_rules.specs.Nodes.{NodeState}
use Rattle.replica_rules.specs.Rules.{from_node, ignored}
use Rattle.replica_node.specs.Planning.{node_with, IsPlanned}
use Rattle.replica_node.proofs.Saying.{from_case, ignored_way}
use Rattle.replica_node.proofs.dispatch.plan_from_node.Goals as goal

pub returns-in-Prepared : goal.returns-in-Prepared
returns-in-Prepared c = λ g held kept serves.
    subst (λ (m : Message). IfOk c.plan_vote.result (IsPlanned c.args.geometry.now g held c.args.session.now c.plan_vote.new.session (λ node. from_node c.args.geometry.now node c.args.from m))) (sym c.in-Prepared.is) (c.plan_vote.ensures g held kept serves)

pub returns-in-Committed : goal.returns-in-Committed
returns-in-Committed c = λ g held kept serves.
    subst (λ (m : Message). IfOk c.plan_claim.result (IsPlanned c.args.geometry.now g held c.args.session.now c.plan_claim.new.session (λ node. from_node c.args.geometry.now node c.args.from m))) (sym c.in-Committed.is) (c.plan_claim.ensures g held kept serves)

pub returns-in-Part : goal.returns-in-Part
returns-in-Part c = λ g held kept serves.
    let R : Message → Type 0 = λ m. (node : NodeState) → from_node c.args.geometry.now node c.args.from m ≡ ignored node in
    let m : Message = c.args.message.now in
    let nothing : R m =
    ⊎_elim (from_case R m message.Part (λ x node. refl)) (⊎_elim (from_case R m message.Ask (λ x node. refl)) (⊎_elim (from_case R m message.Answer (λ x node. refl))
    (⊎_elim (from_case R m message.Gather (λ x node. refl)) (⊎_elim (from_case R m message.Gathered (λ x node. refl)) (⊎_elim (from_case R m message.Stage (λ x node. refl))
    (⊎_elim (from_case R m message.Staged (λ x node. refl)) (⊎_elim (from_case R m message.Switch (λ x node. refl)) (⊎_elim (from_case R m message.Switched (λ x node. refl))
    (⊎_elim (from_case R m message.Dump (λ x node. refl)) (from_case R m message.Dumped (λ x node. refl))))))))))) c.in-Part.is in
    ignored_way c.ignored.result c.args.geometry.now g held c.args.session.now (λ node. from_node c.args.geometry.now node c.args.from m) serves (λ memory. nothing (node_with held memory)) c.ignored.ensures
