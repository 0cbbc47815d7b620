use Rattle.std.proofs.Common.{refl}
use Rattle.serving_client.proofs.Rooms.{left_accepted, left_kept}
use Rattle.serving_client.proofs.Leaves.{leaves_told}
use Rattle.serving_client.proofs.leaving.leave.Goals as goal

pub ask_head-requires-clause-accepted : goal.ask_head-requires-clause-accepted
ask_head-requires-clause-accepted c =
    left_accepted c.args.core.now c.leave_all.new.pipeline c.leave_all.new.line c.leave_all.new.reads c.requires c.leave_all.ensures.stays c.in_ok-leave_all.ensures.line c.in_ok-leave_all.ensures.room
    c.in_ok-leave_all.ensures.up_to

pub returns-clause-kept : goal.returns-clause-kept
returns-clause-kept c =
    left_kept c.args.core.now c.leave_all.new.pipeline c.leave_all.new.line c.leave_all.new.reads c.requires c.leave_all.ensures.stays c.in_ok-leave_all.ensures.line c.in_ok-leave_all.ensures.room
    c.in_ok-leave_all.ensures.up_to c.ask_head.new.asked c.leave_all.ensures.shape c.ask_head.ensures.shape c.in_ok-ask_head.ensures.asked

pub returns-clause-told : goal.returns-clause-told
returns-clause-told c = λ volume client borne.
    leaves_told volume client c.args.core.now c.leave_all.new.pipeline c.leave_all.new.line c.leave_all.new.reads c.ask_head.new.asked c.args.step.now c.leave_all.new.step
    (record { outs = c.ask_head.new.outs; lines = c.leave_all.new.step.lines }) borne c.in_ok-leave_all.ensures.left c.leave_all.ensures.stays c.in_ok-leave_all.ensures.line c.in_ok-ask_head.ensures.asked
    c.in_ok-ask_head.ensures.outs refl
