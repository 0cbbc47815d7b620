use Rattle.std.proofs.Common.{subst}
use Rattle.serving_client.specs.Keeping.{kept_of}
use Rattle.serving_client.proofs.Heard.{told_faulted, told_known}
use Rattle.head_blocks.specs.Headed.{IsLeft, IsSettled}
use Rattle.serving_client.proofs.heading.take_head_answer.Goals as goal

pub returns-in_ok-submit_head-in-Known-clause-told : goal.returns-in_ok-submit_head-in-Known-clause-told
returns-in_ok-submit_head-in-Known-clause-told c = λ volume client stands apart.
    told_known c.args.core.now c.args.from c.args.answer.now c.answer_head.new.trees c.answer_head.new.asked c.args.step.now c.answer_head.new.step c.submit_head.new.step (kept_of c.submit_head.new.core)
    c.in_ok-headway.headway c.in_ok-headway.ensures.told c.in_ok-headway.ensures.agrees volume client stands apart c.in-Known.is c.in_ok-submit_head-in-Known.ensures.told

pub returns-in_ok-end_head-in-Faulted-clause-told : goal.returns-in_ok-end_head-in-Faulted-clause-told
returns-in_ok-end_head-in-Faulted-clause-told c = λ volume client stands apart.
    let settled : IsSettled c.answer_head.new.asked.asked c.args.core.now.line =
    subst (λ w. IsLeft w c.answer_head.new.trees c.answer_head.new.asked.asked c.args.core.now.line) c.in-Faulted.is (c.in_ok-headway.ensures.headed c.args.core.now.line c.requires.kept.headed) in
    told_faulted c.args.core.now c.args.from c.args.answer.now c.answer_head.new.trees c.answer_head.new.asked c.args.step.now c.answer_head.new.step c.end_head.new.step (kept_of c.end_head.new.core)
    c.in_ok-headway.headway c.in_ok-headway.ensures.told c.in_ok-headway.ensures.agrees volume client stands apart c.in-Faulted.is settled.head c.in_ok-end_head-in-Faulted.ensures.told
