use Rattle.law_ranged.proofs.Along.{runs_within}
use Rattle.law_ranged.proofs.runs_keep_to_limits.Goals as goal

pub returns : goal.returns
returns c = runs_within
