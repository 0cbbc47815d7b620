use Rattle.std.proofs.Common.{subst}
use Rattle.client_node.specs.declared.phase.Phase.{Phase}
use Rattle.client_node.specs.Phases.{Plays}
use Rattle.client_node.proofs.Turning.{ticked_serving, ticked_closed}
use Rattle.client_node.proofs.ticking.send_again.Goals as goal

pub returns-in_ok-tick-in-Serving : goal.returns-in_ok-tick-in-Serving
returns-in_ok-tick-in-Serving c = λ volume client plays.
    ticked_serving volume c.in-Serving.client c.args.outs.now.items c.tick.new.outs.items (λ s stands. c.in_ok-tick-in-Serving.ensures volume s stands)
    client (subst (λ (p : Phase). Plays volume p client) c.in-Serving.is plays)

pub returns-in-Closed : goal.returns-in-Closed
returns-in-Closed c = λ volume client plays.
    ticked_closed volume c.in-Closed.field-0 c.args.outs.now.items client (subst (λ (p : Phase). Plays volume p client) c.in-Closed.is plays)
