use Rattle.std.proofs.Common.{subst}
use Rattle.std.specs.Prelude.{IfSome}
use Rattle.salus_types.specs.Volume.{Shape}
use Rattle.schedule_text.specs.Limits.{IsPartyOfVolume}
use Rattle.salus_trace.proofs.Walking.{ongoing, after_event, same_geometry}
use Rattle.salus_trace.proofs.tracing.trace_one.Goals as goal

pub party_of-requires-clause-kept : goal.party_of-requires-clause-kept
party_of-requires-clause-kept c = let k = c.requires.kept in ongoing k.0 k.1 c.args.number c.args.world.now k.3

pub step-requires-clause-kept : goal.step-requires-clause-kept
step-requires-clause-kept c = let k = c.requires.kept in ongoing k.0 k.1 c.args.number c.args.world.now k.3

pub step-requires-clause-newest : goal.step-requires-clause-newest
step-requires-clause-newest c = c.requires.kept.3.1.newest

pub put_row-requires-clause-kept : goal.put_row-requires-clause-kept
put_row-requires-clause-kept c =
    let k = c.requires.kept in
    ongoing k.0 k.1 _ c.step.new.self (after_event k.0 k.1 c.args.number c.args.event c.args.world.now c.step.new.self c.in_ok-step.ensures.does c.requires.low k.2 k.3)

pub put_row-requires-clause-of : goal.put_row-requires-clause-of
put_row-requires-clause-of c =
    let k = c.requires.kept in
    let after = after_event k.0 k.1 c.args.number c.args.event c.args.world.now c.step.new.self c.in_ok-step.ensures.does c.requires.low k.2 k.3 in
    subst (λ (s : Shape). IfSome c.party_of.result (IsPartyOfVolume s)) (same_geometry k.0 k.1 _ _ c.args.world.now c.step.new.self k.3 after) c.party_of.ensures

pub returns : goal.returns
returns c = λ volume all at before.
    after_event volume all c.args.number c.args.event c.args.world.now c.step.new.self c.in_ok-step.ensures.does c.requires.low at before
