use Rattle.std.proofs.Common.{sym, subst}
use Rattle.std.specs.Prelude.{IfOk, Result}
use Rattle.salus_message.specs.declared.wire.Message.{Message}
use Rattle.salus_message.specs.declared.wire.MessageError.{MessageError}
use Rattle.salus_message.specs.Reading.{message_at}
use Rattle.replica_rules.specs.Rules.{from_result, planned}
use Rattle.replica_node.specs.Planning.{IsPlanned}
use Rattle.replica_node.proofs.Saying.{undecoded_way}
use Rattle.replica_node.proofs.dispatch.plan.Goals as goal

pub plan_from_sender-requires-clause-message : goal.plan_from_sender-requires-clause-message
plan_from_sender-requires-clause-message c = c.in-Ok.ensures.found.1

pub returns-in-Ok : goal.returns-in-Ok
unfolding planned
returns-in-Ok c =
    subst (λ (r : Result Message MessageError). IfOk c.plan_from_sender.result (IsPlanned c.args.geometry.now c.args.name.region c.args.held.now c.args.session.now c.plan_from_sender.new.session (λ node. from_result c.args.geometry.now c.args.name.region node c.args.from r)))
    (sym c.in-Ok.ensures.exact) c.plan_from_sender.ensures

pub returns-in-Err : goal.returns-in-Err
unfolding planned
returns-in-Err c =
    undecoded_way c.plan_undecoded.result c.args.geometry.now c.args.name.region c.args.held.now c.args.session.now c.args.from (message_at c.args.bytes.now) c.in-Err.error c.requires.serves
    (c.plan_undecoded.ensures.refused (message_at c.args.bytes.now) c.in-Err.ensures.exact) c.plan_undecoded.ensures.told
