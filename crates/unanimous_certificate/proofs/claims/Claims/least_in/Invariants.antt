use Rattle.std.proofs.Common.{◌≡◌}
use Rattle.unanimous_certificate.specs.Kept.{claims_in}
use Rattle.unanimous_certificate.proofs.Grouped.{least_of_first}
use Rattle.unanimous_certificate.proofs.claims.Claims.least_in.Given as goal

abbrev pub invariant-replicas : goal.invariant-replicas
invariant-replicas l = l.least ≡ least_of_first (claims_in l.self) l.region l.replica
