use Rattle.std.proofs.Common.{◌≡◌}
use Rattle.replica_tests.proofs.certificates.claims_hold.Given as goal

abbrev pub invariant-rows : goal.invariant-rows
invariant-rows l = l.claims.shape ≡ l.geometry
