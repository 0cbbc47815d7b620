use Rattle.std.proofs.Common.{length, ◌-◌}
use Rattle.salus_trace.proofs.table.put_sent.Given as goal

abbrev pub decreases-runs : goal.decreases-runs
decreases-runs l = length l.messages - l.at
