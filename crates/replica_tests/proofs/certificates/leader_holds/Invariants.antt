use Rattle.std.proofs.Common.{◌≡◌}
use Rattle.replica_tests.proofs.certificates.leader_holds.Given as goal

abbrev pub invariant-rows : goal.invariant-rows
invariant-rows l = l.leader.shape ≡ l.geometry
