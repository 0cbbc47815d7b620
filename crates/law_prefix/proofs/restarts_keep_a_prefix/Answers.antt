use Rattle.law_prefix.proofs.Kept.{run_kept, run_recovers, run_covers}
use Rattle.law_prefix.proofs.restarts_keep_a_prefix.Goals as goal

pub returns : goal.returns
returns c = record { kept = run_kept; found = run_recovers; covered = run_covers }
