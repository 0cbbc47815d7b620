use Rattle.std.proofs.Common.{subst}
use Rattle.session_opening.specs.declared.opening.Outcome.{Outcome}
use Rattle.session_opening.specs.declared.opening.Outcome.TheVariants as outcome
use Rattle.session_opening.specs.Telling.{Becomes}
use Rattle.client_node.proofs.Opened.{serves_now}
use Rattle.client_node.proofs.replies.phase_of.Goals as goal

pub returns-in_ok-client-in-Serves-clause-plays : goal.returns-in_ok-client-in-Serves-clause-plays
returns-in_ok-client-in-Serves-clause-plays c = λ volume client geometry becomes.
    let serves : Becomes volume (outcome.Serves c.in-Serves.served c.in-Serves.key) client = subst (λ (o : Outcome). Becomes volume o client) c.in-Serves.is becomes in
    serves_now volume c.args.geometry c.in-Serves.served c.in_ok-client-in-Serves.client (λ contents long roots. c.in_ok-client-in-Serves.ensures.stands volume contents geometry serves.1 long roots)
    client geometry serves.0
