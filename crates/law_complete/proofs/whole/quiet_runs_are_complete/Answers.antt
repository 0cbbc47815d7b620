use Rattle.law_complete.proofs.Together.{complete_when_quiet}
use Rattle.law_complete.proofs.whole.quiet_runs_are_complete.Goals as goal

pub returns : goal.returns
returns c = complete_when_quiet
