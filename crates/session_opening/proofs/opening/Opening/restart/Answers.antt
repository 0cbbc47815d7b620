use Rattle.std.proofs.Common.{refl}
use Rattle.session_opening.specs.Gathered.{starts_gathering}
use Rattle.session_opening.proofs.Openings.{gathers_here, restarted_told}
use Rattle.session_opening.proofs.opening.Opening.restart.Goals as goal

pub ask-requires : goal.ask-requires
ask-requires c = gathers_here c.args.geometry _ c.in_ok-gathering.ensures.kept

pub returns-clause-told : goal.returns-clause-told
returns-clause-told c = λ volume geometry key.
    restarted_told volume c.args.geometry c.args.key c.args.session _ _ _ geometry key c.in_ok-gathering.ensures.kept c.in_ok-gathering.ensures.stands
    (c.in_ok-ask.ensures (starts_gathering c.args.session) c.in_ok-gathering.ensures.stands) refl
