use Rattle.std.proofs.Common.{◌≡◌, ℕ, ◌<◌, nat_le, true}
use Rattle.unanimous_certificate.specs.Kept.{claims_in}
use Rattle.unanimous_certificate.proofs.Grouped.{replica_of}
use Rattle.unanimous_certificate.proofs.claims.Claims.all_claim.Given as goal

abbrev pub invariant-replicas : goal.invariant-replicas
invariant-replicas l = (r : ℕ) → r < l.replica → nat_le l.seq (claims_in l.self (replica_of l.region r)) ≡ true
