use Rattle.salus_trace.proofs.Walking.{ongoing, after_event, event_over}
use Rattle.salus_trace.proofs.tracing.trace_event.Goals as goal

pub step-requires-clause-kept : goal.step-requires-clause-kept
step-requires-clause-kept c = let k = c.requires.kept in ongoing k.0 k.1 c.args.number c.args.world.now k.3

pub step-requires-clause-newest : goal.step-requires-clause-newest
step-requires-clause-newest c = c.requires.kept.3.1.newest

pub returns : goal.returns
returns c = λ volume all at before.
    after_event volume all c.args.number c.args.event c.args.world.now c.step.new.self c.in_ok-step.ensures.does c.requires.low at before

pub returns-in-Settle : goal.returns-in-Settle
returns-in-Settle c = λ volume all at before.
    event_over volume all c.args.number c.trace_settle.new.world c.requires.low (c.in_ok-trace_settle.ensures volume all before)
