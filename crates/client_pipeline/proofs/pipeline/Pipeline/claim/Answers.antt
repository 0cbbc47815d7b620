use Rattle.std.proofs.Common.{refl, sym, arith}
use Rattle.client_pipeline.proofs.Underway.{underway, goes_on, raised_stays, raised_records, all_stands, all_lines, all_stays, all_records, all_waiting, raised_waiting}
use Rattle.client_pipeline.proofs.pipeline.Pipeline.claim.Goals as goal

pub acks-init : goal.acks-init
acks-init c = underway c.args.self.now c.args.node c.args.front c.args.lines.now.items _ c.claim.new.self c.self.view_is c.self.invariant c.claim.ensures.others c.claim.ensures.stands

pub acks-preserved : goal.acks-preserved
acks-preserved c =
    goes_on c.args.self.now c.args.node c.args.front c.args.lines.now.items _ c.acks.lines.items c.acks.invariant c.in-Some.number c.acknowledge.new.window c.answer_barriers.new.window c.acknowledge.new.parts.items
    c.push.new.self.items c.answer_barriers.new.lines.items (sym c.in-Some.ensures.given) c.in-Some.ensures.raised c.answer_barriers.ensures.others c.in-Some.ensures.dropped c.in-Some.ensures.first c.in_ok-push.ensures.items c.answer_barriers.ensures.fewer
    c.in_ok-answer_barriers.ensures.lines c.in_ok-answer_barriers.ensures.waiting

pub invariant_of-self : goal.invariant_of-self
invariant_of-self c =
    raised_records c.args.self.now c.args.node c.args.front c.args.lines.now.items _ c.acks.lines.items c.acks.invariant c.in-Some.number c.acknowledge.new.window c.acknowledge.new.window c.acknowledge.new.parts.items
    c.acks.lines.items c.acks.lines.items (sym c.in-Some.ensures.given) c.in-Some.ensures.raised refl c.in-Some.ensures.dropped

pub returns-in_err-push-clause-stays : goal.returns-in_err-push-clause-stays
returns-in_err-push-clause-stays c =
    raised_stays c.args.self.now c.args.node c.args.front c.args.lines.now.items _ c.acks.lines.items c.acks.invariant c.in-Some.number c.acknowledge.new.window c.acknowledge.new.window c.acknowledge.new.parts.items
    c.acks.lines.items c.acks.lines.items (sym c.in-Some.ensures.given) c.in-Some.ensures.raised refl

pub invariant_of-self-in_err-answer_barriers : goal.invariant_of-self-in_err-answer_barriers
invariant_of-self-in_err-answer_barriers c =
    raised_records c.args.self.now c.args.node c.args.front c.args.lines.now.items _ c.acks.lines.items c.acks.invariant c.in-Some.number c.acknowledge.new.window c.acknowledge.new.window c.acknowledge.new.parts.items
    c.acks.lines.items c.acks.lines.items (sym c.in-Some.ensures.given) c.in-Some.ensures.raised refl c.in-Some.ensures.dropped

pub returns-in_err-answer_barriers-clause-stays : goal.returns-in_err-answer_barriers-clause-stays
returns-in_err-answer_barriers-clause-stays c =
    raised_stays c.args.self.now c.args.node c.args.front c.args.lines.now.items _ c.acks.lines.items c.acks.invariant c.in-Some.number c.acknowledge.new.window c.answer_barriers.new.window c.acknowledge.new.parts.items
    c.acks.lines.items c.acks.lines.items (sym c.in-Some.ensures.given) c.in-Some.ensures.raised c.answer_barriers.ensures.others

pub invariant_of-self-in_default : goal.invariant_of-self-in_default
invariant_of-self-in_default c =
    all_records c.args.self.now c.args.node c.args.front c.args.lines.now.items _ c.acks.lines.items c.acks.invariant c.acknowledge.new.window c.acknowledge.new.parts.items c.in_default.ensures.none c.in_default.ensures.kept
    c.in_default.ensures.first

pub returns-clause-stands : goal.returns-clause-stands
returns-clause-stands c =
    all_stands c.args.self.now c.args.node c.args.front c.args.lines.now.items _ c.acks.lines.items c.acks.invariant c.acknowledge.new.window c.acknowledge.new.parts.items c.in_default.ensures.none c.in_default.ensures.kept
    c.in_default.ensures.first

pub returns-clause-lines : goal.returns-clause-lines
returns-clause-lines c =
    all_lines c.args.self.now c.args.node c.args.front c.args.lines.now.items _ c.acks.lines.items c.acks.invariant c.acknowledge.new.window c.acknowledge.new.parts.items c.in_default.ensures.none c.in_default.ensures.kept
    c.in_default.ensures.first

pub returns-clause-stays : goal.returns-clause-stays
returns-clause-stays c =
    all_stays c.args.self.now c.args.node c.args.front c.args.lines.now.items _ c.acks.lines.items c.acks.invariant c.acknowledge.new.window c.acknowledge.new.parts.items c.in_default.ensures.none c.in_default.ensures.kept
    c.in_default.ensures.first

pub returns-in_err-push-clause-waiting : goal.returns-in_err-push-clause-waiting
returns-in_err-push-clause-waiting c =
    raised_waiting c.args.self.now c.args.node c.args.front c.args.lines.now.items _ c.acks.lines.items c.acks.invariant c.in-Some.number c.acknowledge.new.window c.acknowledge.new.window c.acknowledge.new.parts.items
    c.acks.lines.items c.acks.lines.items (sym c.in-Some.ensures.given) c.in-Some.ensures.raised refl (omega arith)

pub returns-in_err-answer_barriers-clause-waiting : goal.returns-in_err-answer_barriers-clause-waiting
returns-in_err-answer_barriers-clause-waiting c =
    raised_waiting c.args.self.now c.args.node c.args.front c.args.lines.now.items _ c.acks.lines.items c.acks.invariant c.in-Some.number c.acknowledge.new.window c.answer_barriers.new.window c.acknowledge.new.parts.items
    c.acks.lines.items c.acks.lines.items (sym c.in-Some.ensures.given) c.in-Some.ensures.raised c.answer_barriers.ensures.others c.answer_barriers.ensures.fewer

pub returns-clause-waiting : goal.returns-clause-waiting
returns-clause-waiting c =
    all_waiting c.args.self.now c.args.node c.args.front c.args.lines.now.items _ c.acks.lines.items c.acks.invariant c.acknowledge.new.window c.acknowledge.new.parts.items c.in_default.ensures.none c.in_default.ensures.kept
    c.in_default.ensures.first
