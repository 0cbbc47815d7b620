use Rattle.std.proofs.Common.{refl}
use Rattle.session_opening.proofs.Openings.{reassigned_told}
use Rattle.session_opening.proofs.opening.Opening.reassign.Goals as goal

pub returns-clause-told : goal.returns-clause-told
returns-clause-told c = λ volume client geometry key serves.
    reassigned_told volume c.args.geometry c.args.key c.args.session c.args.region c.args.served client _ _ geometry key serves c.in_ok-ask.ensures refl
