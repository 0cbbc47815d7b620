use Rattle.session_opening.proofs.Replies.{fresh_kept, fresh_stands}
use Rattle.session_opening.proofs.gathering.Gathering.new.Goals as goal

pub returns-clause-kept : goal.returns-clause-kept
returns-clause-kept c = fresh_kept c.args.geometry c.args.session _ c.in_ok-restart.ensures

pub returns-clause-stands : goal.returns-clause-stands
returns-clause-stands c = fresh_stands c.args.geometry c.args.session _ c.in_ok-restart.ensures
