use Rattle.std.proofs.Common.{sym, subst}
use Rattle.salus_types.specs.declared.records.Held.{Held}
use Rattle.replica_rules.specs.Nodes.{NodeState}
use Rattle.replica_rules.specs.Rules.{Plan, Receives, planned, handled}
use Rattle.replica_node.specs.Serving.{Serves}
use Rattle.replica_node.specs.Planning.{IsPlanned}
use Rattle.replica_node.proofs.Starting.{starts_at}
use Rattle.replica_node.proofs.Carrying.{at_held, can_store, durable_way, moments_by, rules_way, serves_way}
use Rattle.replica_node.proofs.handling.receive.Goals as goal

pub plan-requires-clause-kept : goal.plan-requires-clause-kept
plan-requires-clause-kept g c = c.held-held.ensures.ranges

pub plan-requires-clause-serves : goal.plan-requires-clause-serves
plan-requires-clause-serves g c = subst (λ (h : Held). Serves c.args.geometry.now c.args.name.region h c.args.session.now) (sym c.held-held.ensures.held) c.requires.serves

pub store_planned-requires-clause-storable : goal.store_planned-requires-clause-storable
store_planned-requires-clause-storable g c =
    let shape = c.args.geometry.now in
    let r = c.args.name.region in
    let held = c.args.checkpoint.now.store.held in
    let rule : NodeState → Plan = λ node. planned shape r node (Receives c.args.from c.args.bytes.now) in
    let is : IsPlanned shape r held c.args.session.now c.plan.new.session rule c.in-Ok.planned = at_held shape r c.held-held.result.now held c.args.session.now c.plan.new.session rule c.in-Ok.planned c.held-held.ensures.held c.in-Ok.ensures in
    can_store shape r held c.args.session.now c.plan.new.session c.in-Ok.planned rule is

pub returns-in-Ok-clause-rules : goal.returns-in-Ok-clause-rules
returns-in-Ok-clause-rules g c =
    let shape = c.args.geometry.now in
    let r = c.args.name.region in
    let held = c.args.checkpoint.now.store.held in
    let rule : NodeState → Plan = λ node. planned shape r node (Receives c.args.from c.args.bytes.now) in
    let is : IsPlanned shape r held c.args.session.now c.plan.new.session rule c.in-Ok.planned = at_held shape r c.held-held.result.now held c.args.session.now c.plan.new.session rule c.in-Ok.planned c.held-held.ensures.held c.in-Ok.ensures in
    rules_way c.store_planned.result shape r held c.store_planned.new.checkpoint.store.held c.args.session.now c.plan.new.session c.in-Ok.planned (Receives c.args.from c.args.bytes.now) is c.store_planned.ensures.outs c.store_planned.ensures.stored

pub returns-in-Ok-clause-any_moment : goal.returns-in-Ok-clause-any_moment
returns-in-Ok-clause-any_moment g c = λ state node.
    let shape = c.args.geometry.now in
    let r = c.args.name.region in
    let held = c.args.checkpoint.now.store.held in
    let rule : NodeState → Plan = λ node. planned shape r node (Receives c.args.from c.args.bytes.now) in
    let is : IsPlanned shape r held c.args.session.now c.plan.new.session rule c.in-Ok.planned = at_held shape r c.held-held.result.now held c.args.session.now c.plan.new.session rule c.in-Ok.planned c.held-held.ensures.held c.in-Ok.ensures in
    moments_by shape r held c.args.session.now c.plan.new.session c.in-Ok.planned (Receives c.args.from c.args.bytes.now) is state node (g.D.Disk.history c.args.checkpoint.now.store.log.disk.disk) (g.D.Disk.history c.store_planned.new.checkpoint.store.log.disk.disk) (c.store_planned.ensures.any_moment shape)

pub returns-in-Ok-clause-serves : goal.returns-in-Ok-clause-serves
returns-in-Ok-clause-serves g c =
    let shape = c.args.geometry.now in
    let r = c.args.name.region in
    let held = c.args.checkpoint.now.store.held in
    let rule : NodeState → Plan = λ node. planned shape r node (Receives c.args.from c.args.bytes.now) in
    let is : IsPlanned shape r held c.args.session.now c.plan.new.session rule c.in-Ok.planned = at_held shape r c.held-held.result.now held c.args.session.now c.plan.new.session rule c.in-Ok.planned c.held-held.ensures.held c.in-Ok.ensures in
    serves_way c.store_planned.result shape r held c.store_planned.new.checkpoint.store.held c.args.session.now c.plan.new.session c.in-Ok.planned rule is c.store_planned.ensures.stored

pub returns-in-Ok-clause-durable : goal.returns-in-Ok-clause-durable
returns-in-Ok-clause-durable g c =
    durable_way c.store_planned.result c.args.geometry.now c.args.name.region c.args.checkpoint.now.store.held c.store_planned.new.checkpoint.store.held c.args.session.now c.plan.new.session c.in-Ok.planned (g.D.Disk.history c.store_planned.new.checkpoint.store.log.disk.disk) c.store_planned.ensures.stored c.store_planned.ensures.durable

pub returns-in-Err-clause-any_moment : goal.returns-in-Err-clause-any_moment
returns-in-Err-clause-any_moment g c = λ state node.
    let checkpoint = c.args.checkpoint.now in
    starts_at c.args.geometry.now state.held checkpoint.store.held (handled c.args.geometry.now c.args.name.region state (Receives c.args.from c.args.bytes.now)).changes (g.D.Disk.history checkpoint.store.log.disk.disk) node.held (c.held-held.ensures.means c.requires.working)
