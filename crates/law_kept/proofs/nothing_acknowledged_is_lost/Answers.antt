use Rattle.law_kept.proofs.Whole.{run_kept, run_unlost}
use Rattle.law_kept.proofs.nothing_acknowledged_is_lost.Goals as goal

pub returns : goal.returns
returns c = record {
  kept = run_kept;
  found = run_unlost;
}
