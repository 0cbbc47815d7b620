use Rattle.law_asked.proofs.Run.{all_asked_right}
use Rattle.law_asked.proofs.open_reads_are_asked_right.Goals as goal

pub returns : goal.returns
returns c = all_asked_right
