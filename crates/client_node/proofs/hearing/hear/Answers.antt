use Rattle.std.proofs.Common.{sym, subst}
use Rattle.client_rules.specs.Rules.{received}
use Rattle.client_node.specs.declared.phase.Phase.{Phase}
use Rattle.client_node.specs.Phases.{Plays, Follows}
use Rattle.client_node.proofs.Turning.{heard_serving, heard_closed}
use Rattle.client_node.proofs.hearing.hear.Goals as goal

pub returns-in_ok-hear_serving-in-Serving-clause-rules : goal.returns-in_ok-hear_serving-in-Serving-clause-rules
returns-in_ok-hear_serving-in-Serving-clause-rules c = λ volume client plays.
    heard_serving volume c.args.step.now c.hear_serving.new.step c.args.from c.args.message c.in-Serving.client c.hear_serving.new.client
    (λ s stands apart. c.in_ok-hear_serving-in-Serving.ensures.rules volume s stands apart) client (subst (λ (p : Phase). Plays volume p client) c.in-Serving.is plays)

pub returns-in-Closed-clause-rules : goal.returns-in-Closed-clause-rules
returns-in-Closed-clause-rules c = λ volume client plays apart.
    subst (λ (p : Phase). Follows volume c.args.step.now c.args.step.now p (received volume client c.args.from c.args.message)) (sym c.in-Closed.is)
    (heard_closed volume c.args.step.now c.args.from c.args.message c.in-Closed.field-0 client (subst (λ (p : Phase). Plays volume p client) c.in-Closed.is plays))
