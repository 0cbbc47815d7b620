use Rattle.law_complete.proofs.Votes.{votes_rooted}
use Rattle.law_complete.proofs.sessions.votes_are_rooted.Goals as goal

pub returns : goal.returns
returns c = votes_rooted
