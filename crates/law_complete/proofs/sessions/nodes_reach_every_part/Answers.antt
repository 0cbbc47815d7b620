use Rattle.law_complete.proofs.Reached.{parts_reached}
use Rattle.law_complete.proofs.sessions.nodes_reach_every_part.Goals as goal

pub returns : goal.returns
returns c = parts_reached
