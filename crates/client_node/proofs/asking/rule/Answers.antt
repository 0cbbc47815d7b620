use Rattle.std.proofs.Common.{◌≡◌, false, subst, rules}
use Rattle.client_rules.specs.State.{Client}
use Rattle.client_node.specs.declared.phase.Phase.{Phase}
use Rattle.client_node.specs.Asking.{IsRuling}
use Rattle.client_node.specs.Phases.{serves_in, Plays}
use Rattle.client_node.proofs.Turning.{by_serving}
use Rattle.client_node.proofs.Away.{none_reassigned, plays_away}
use Rattle.client_node.proofs.asking.rule.Goals as goal

pub returns-in_ok-ruling-in-Serving-clause-rule : goal.returns-in_ok-ruling-in-Serving-clause-rule
returns-in_ok-ruling-in-Serving-clause-rule c = λ volume client event plays.
    by_serving volume c.in-Serving.client (λ (d : Client). IsRuling volume d event c.args.session c.args.region c.in_ok-ruling-in-Serving.ruling)
    (λ s stands. c.in_ok-ruling-in-Serving.ensures.rule volume s event stands) client (subst (λ (p : Phase). Plays volume p client) c.in-Serving.is plays)

pub returns-in-Closed-clause-rule : goal.returns-in-Closed-clause-rule
returns-in-Closed-clause-rule c = λ volume client event plays.
    let away : serves_in c.args.phase.now ≡ false = search rules in
    none_reassigned volume client event c.args.session c.args.region (plays_away volume c.args.phase.now away client plays)
