use Rattle.std.proofs.Common.{◌≡◌}
use Rattle.replica_tests.proofs.certificates.votes_hold.Given as goal

abbrev pub invariant-rows : goal.invariant-rows
invariant-rows l = l.votes.shape ≡ l.geometry
