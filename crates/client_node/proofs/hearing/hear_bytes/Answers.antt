use Rattle.salus_message.specs.Reading.{message_at}
use Rattle.client_node.proofs.Turning.{heard_decoded, heard_nothing}
use Rattle.client_node.proofs.hearing.hear_bytes.Goals as goal

pub returns-in_ok-hear-in-Ok-clause-rules : goal.returns-in_ok-hear-in-Ok-clause-rules
returns-in_ok-hear-in-Ok-clause-rules c = λ volume client event plays.
    heard_decoded volume c.args.step.now c.hear.new.step c.args.from c.args.bytes.now c.in-Ok.message c.args.phase.now c.hear.new.phase c.in-Ok.ensures.exact
    (λ d its apart. c.in_ok-hear-in-Ok.ensures.rules volume d its apart) client event plays

pub returns-in_ok-ignore_undecoded-in-Err-clause-rules : goal.returns-in_ok-ignore_undecoded-in-Err-clause-rules
returns-in_ok-ignore_undecoded-in-Err-clause-rules c = λ volume client event plays apart.
    heard_nothing volume c.args.step.now c.args.from c.args.bytes.now c.in-Err.error c.args.phase.now
    (c.in_ok-ignore_undecoded-in-Err.ensures (message_at c.args.bytes.now) c.in-Err.ensures.exact) client event plays
