use Rattle.std.proofs.Common.{map, sym, subst}
use Rattle.salus_model.specs.Waiting.{Taken}
use Rattle.client_asking.specs.Lining.{AreUpTo, numbers_taken}
use Rattle.client_asking.proofs.Rising.{rise_free}
use Rattle.client_asking.proofs.Left.{read_room, barrier_room}
use Rattle.client_asking.proofs.Underway.{leaving_starts, leaving_more, leaving_ends, next_room, shorter}
use Rattle.client_asking.proofs.leaving.leave_all.Goals as goal

pub line-init : goal.line-init
line-init c = leaving_starts c.args.pipeline.now c.args.reads.now c.args.line.now c.args.step.now c.requires.room

pub leave_one-requires-clause-accepted : goal.leave_one-requires-clause-accepted
leave_one-requires-clause-accepted c =
    (next_room c.line.pipeline c.line.reads.asked c.line.line c.leave.new.self c.in-Some.taken c.line.invariant.room c.in-Some.ensures.left c.leave.ensures.line).accepted.0

pub leave_one-requires-clause-room : goal.leave_one-requires-clause-room
leave_one-requires-clause-room c =
    read_room c.line.pipeline c.line.reads.asked c.in-Some.taken c.leave.new.self
    (next_room c.line.pipeline c.line.reads.asked c.line.line c.leave.new.self c.in-Some.taken c.line.invariant.room c.in-Some.ensures.left c.leave.ensures.line)

pub leave_one-requires-clause-free : goal.leave_one-requires-clause-free
leave_one-requires-clause-free c =
    rise_free 0 c.line.reads.asked c.in-Some.taken.event (map (λ (t : Taken). t.event) c.leave.new.self)
    (next_room c.line.pipeline c.line.reads.asked c.line.line c.leave.new.self c.in-Some.taken c.line.invariant.room c.in-Some.ensures.left c.leave.ensures.line).rises

pub leave_one-requires-clause-barriers : goal.leave_one-requires-clause-barriers
leave_one-requires-clause-barriers c =
    barrier_room c.line.pipeline c.line.reads.asked c.in-Some.taken c.leave.new.self
    (next_room c.line.pipeline c.line.reads.asked c.line.line c.leave.new.self c.in-Some.taken c.line.invariant.room c.in-Some.ensures.left c.leave.ensures.line)

pub line-smaller-in_ok-leave_one : goal.line-smaller-in_ok-leave_one
line-smaller-in_ok-leave_one c = shorter c.line.line c.leave.new.self c.in-Some.taken c.in-Some.ensures.left c.leave.ensures.line

pub line-smaller : goal.line-smaller
line-smaller c = shorter c.line.line c.leave.new.self c.in-Some.taken c.in-Some.ensures.left c.leave.ensures.line

pub line-preserved-in_ok-leave_one : goal.line-preserved-in_ok-leave_one
line-preserved-in_ok-leave_one c =
    leaving_more c.args.pipeline.now c.line.pipeline c.leave_one.new.pipeline c.args.reads.now c.line.reads c.leave_one.new.reads c.args.line.now c.line.line c.leave.new.self
    c.args.step.now c.line.step c.leave_one.new.step c.in-Some.taken c.line.invariant c.in-Some.ensures.left c.leave.ensures.line
    c.in_ok-leave_one.ensures.left c.in_ok-leave_one.ensures.reads c.in_ok-leave_one.ensures.barriers c.leave_one.ensures.stays c.leave_one.ensures.shape

pub line-preserved : goal.line-preserved
line-preserved c =
    leaving_more c.args.pipeline.now c.line.pipeline c.leave_one.new.pipeline c.args.reads.now c.line.reads c.leave_one.new.reads c.args.line.now c.line.line c.leave.new.self
    c.args.step.now c.line.step c.leave_one.new.step c.in-Some.taken c.line.invariant c.in-Some.ensures.left c.leave.ensures.line
    c.in_ok-leave_one.ensures.left c.in_ok-leave_one.ensures.reads c.in_ok-leave_one.ensures.barriers c.leave_one.ensures.stays c.leave_one.ensures.shape

pub returns-clause-left : goal.returns-clause-left
returns-clause-left c = λ client bears.
    leaving_ends c.args.pipeline.now c.line.pipeline c.args.reads.now c.line.reads c.args.line.now c.line.line c.args.step.now c.line.step c.line.invariant c.in_default.ensures.left.0 client bears

pub returns-clause-up_to : goal.returns-clause-up_to
returns-clause-up_to c = λ high up_to.
    subst (λ l. AreUpTo high (numbers_taken c.line.reads.asked l)) (sym c.in_default.ensures.left.1) (c.line.invariant.up_to high up_to)
