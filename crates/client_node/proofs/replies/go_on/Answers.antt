use Rattle.std.proofs.Common.{◌+◌, ◌^◌, sym, subst}
use Rattle.session_opening.specs.Kept.{KeptOpening}
use Rattle.session_opening.specs.Standing.{IsUpTo}
use Rattle.session_opening.specs.Telling.{Follows}
use Rattle.client_node.proofs.Opened.{has_come}
use Rattle.client_node.proofs.replies.go_on.Goals as goal

pub phase_of-requires-clause-outcome : goal.phase_of-requires-clause-outcome
phase_of-requires-clause-outcome c =
    has_come c.args.client.opening c.geometry-geometry.result c.newest-newest.result c.geometry-geometry.ensures
    (subst (λ n. IsUpTo (2 ^ 63 + n) c.args.client.opening) (sym c.newest-newest.ensures) c.into_opening.ensures.low.up_to)
    c.in_ok-outcome.outcome (subst (λ (o : KeptOpening). Follows o c.in_ok-outcome.outcome) c.into_opening.ensures.opening c.in_ok-outcome.ensures.follows)
