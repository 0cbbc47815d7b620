use Rattle.std.proofs.Common.{◌≡◌, refl, sym, subst, ⊎_elim}
use Rattle.std.specs.Prelude.{IfOk}
use Rattle.salus_message.specs.declared.wire.Message.{Message}
use Rattle.salus_message.specs.declared.wire.Message.TheVariants as message
use Rattle.salus_message.specs.Ranges.{IsMessage}
use Rattle.replica_rules.specs.Nodes.{NodeState}
use Rattle.replica_rules.specs.Rules.{from_client, by_gather, by_stage, ignored}
use Rattle.replica_node.specs.Planning.{node_with, IsPlanned}
use Rattle.replica_node.proofs.Saying.{any_memory, from_case, ignored_way, said_way}
use Rattle.replica_node.proofs.dispatch.plan_from_client.Goals as goal

pub plan_part-requires : goal.plan_part-requires
plan_part-requires c = subst IsMessage c.in-Part.is c.requires.message

pub returns-in-Part : goal.returns-in-Part
returns-in-Part c =
    subst (λ (m : Message). IfOk c.plan_part.result (IsPlanned c.args.geometry.now c.args.name.region c.args.held.now c.args.session.now c.plan_part.new.session (λ node. from_client c.args.geometry.now c.args.name.region node m))) (sym c.in-Part.is)
    (c.plan_part.ensures c.args.geometry.now c.args.name.region c.args.held.now c.requires.kept c.requires.serves)

pub returns-in-Ask : goal.returns-in-Ask
returns-in-Ask c =
    subst (λ (m : Message). IfOk c.plan_ask.result (IsPlanned c.args.geometry.now c.args.name.region c.args.held.now c.args.session.now c.plan_ask.new.session (λ node. from_client c.args.geometry.now c.args.name.region node m))) (sym c.in-Ask.is)
    (c.plan_ask.ensures c.args.geometry.now c.args.name.region c.args.held.now c.requires.kept c.requires.serves)

pub returns-in-Gather : goal.returns-in-Gather
returns-in-Gather c =
    let shape = c.args.geometry.now in
    let g = c.args.name.region in
    let held = c.args.held.now in
    subst (λ (m : Message). IfOk c.plan_gather.result (IsPlanned shape g held c.args.session.now c.args.session.now (λ node. from_client shape g node m))) (sym c.in-Gather.is)
    (said_way c.plan_gather.result shape g held c.args.session.now (λ node. by_gather node c.in-Gather.gather.session) c.requires.serves (any_memory c.plan_gather.result held c.args.session.now (λ node. by_gather node c.in-Gather.gather.session) c.plan_gather.ensures.says) c.plan_gather.ensures.only)

pub plan_stage-requires-clause-ranges : goal.plan_stage-requires-clause-ranges
plan_stage-requires-clause-ranges c = subst IsMessage c.in-Stage.is c.requires.message

pub plan_stage-requires-clause-shape : goal.plan_stage-requires-clause-shape
plan_stage-requires-clause-shape c = λ kept is. (c.requires.serves.placed kept is).0

pub returns-in-Stage : goal.returns-in-Stage
returns-in-Stage c =
    let shape = c.args.geometry.now in
    let g = c.args.name.region in
    let held = c.args.held.now in
    subst (λ (m : Message). IfOk c.plan_stage.result (IsPlanned shape g held c.args.session.now c.args.session.now (λ node. from_client shape g node m))) (sym c.in-Stage.is)
    (said_way c.plan_stage.result shape g held c.args.session.now (λ node. by_stage shape g node c.in-Stage.stage.base) c.requires.serves c.plan_stage.ensures.says c.plan_stage.ensures.only)

pub returns-in-Switch : goal.returns-in-Switch
returns-in-Switch c =
    subst (λ (m : Message). IfOk c.plan_switch.result (IsPlanned c.args.geometry.now c.args.name.region c.args.held.now c.args.session.now c.plan_switch.new.session (λ node. from_client c.args.geometry.now c.args.name.region node m))) (sym c.in-Switch.is)
    c.plan_switch.ensures

pub returns-in-Dump : goal.returns-in-Dump
returns-in-Dump c =
    subst (λ (m : Message). IfOk c.plan_dump.result (IsPlanned c.args.geometry.now c.args.name.region c.args.held.now c.args.session.now c.args.session.now (λ node. from_client c.args.geometry.now c.args.name.region node m))) (sym c.in-Dump.is)
    (c.plan_dump.ensures c.args.geometry.now c.args.name.region c.args.held.now c.requires.kept c.requires.serves)

pub returns : goal.returns
returns c =
    let shape = c.args.geometry.now in
    let g = c.args.name.region in
    let R : Message → Type 0 = λ m. (node : NodeState) → from_client shape g node m ≡ ignored node in
    let m : Message = c.args.message in
    let nothing : R m =
    ⊎_elim (from_case R m message.Prepared (λ x node. refl)) (⊎_elim (from_case R m message.Committed (λ x node. refl)) (⊎_elim (from_case R m message.Answer (λ x node. refl))
    (⊎_elim (from_case R m message.Gathered (λ x node. refl)) (⊎_elim (from_case R m message.Staged (λ x node. refl)) (⊎_elim (from_case R m message.Switched (λ x node. refl)) (from_case R m message.Dumped (λ x node. refl))))))) c.in-Prepared.is in
    ignored_way c.ignored.result shape g c.args.held.now c.args.session.now (λ node. from_client shape g node m) c.requires.serves (λ memory. nothing (node_with c.args.held.now memory)) c.ignored.ensures
