use Rattle.law_served.proofs.Law.{reads_end}
use Rattle.law_served.proofs.reads_end_beside_every_lie.Goals as goal

pub returns : goal.returns
returns c = reads_end
