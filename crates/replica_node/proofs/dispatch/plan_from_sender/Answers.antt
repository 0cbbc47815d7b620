use Rattle.std.proofs.Common.{◌∙◌, sym, subst}
use Rattle.std.specs.Prelude.{IfOk}
use Rattle.salus_types.specs.declared.names.Sender.{Sender}
use Rattle.replica_rules.specs.Rules.{from_node, from_sender}
use Rattle.replica_node.specs.Planning.{node_with, IsPlanned}
use Rattle.replica_node.proofs.Saying.{ignored_way, planned_same, sender_node, sender_other}
use Rattle.replica_node.proofs.dispatch.plan_from_sender.Goals as goal

pub returns-in-Client : goal.returns-in-Client
returns-in-Client c =
    subst (λ (s : Sender). IfOk c.plan_from_client.result (IsPlanned c.args.geometry.now c.args.name.region c.args.held.now c.args.session.now c.plan_from_client.new.session (λ node. from_sender c.args.geometry.now c.args.name.region node s c.args.message))) (sym c.in-Client.is)
    c.plan_from_client.ensures

pub plan_from_node-requires-clause-shape : goal.plan_from_node-requires-clause-shape
plan_from_node-requires-clause-shape c = λ kept is. (c.requires.serves.placed kept is).0

pub returns-then-is_node : goal.returns-then-is_node
returns-then-is_node c =
    let shape = c.args.geometry.now in
    let g = c.args.name.region in
    let held = c.args.held.now in
    planned_same c.plan_from_node.result shape g held c.args.session.now c.plan_from_node.new.session (λ node. from_node shape node c.in-Node.node c.args.message) (λ node. from_sender shape g node c.args.from c.args.message)
    (λ memory. sender_node shape g (node_with held memory) c.args.from c.in-Node.node c.args.message c.in-Node.is (sym c.is_node.ensures.test ∙ c.if-is_node.true)) (c.plan_from_node.ensures g held c.requires.kept c.requires.serves)

pub returns : goal.returns
returns c =
    let shape = c.args.geometry.now in
    let g = c.args.name.region in
    let held = c.args.held.now in
    ignored_way c.ignored.result shape g held c.args.session.now (λ node. from_sender shape g node c.args.from c.args.message) c.requires.serves
    (λ memory. sender_other shape g (node_with held memory) c.args.from c.in-Node.node c.args.message c.in-Node.is (sym c.is_node.ensures.test ∙ c.if-is_node.false)) c.ignored.ensures
