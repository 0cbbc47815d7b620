use Rattle.std.proofs.Common.{◌≡◌, map}
use Rattle.volume_model.specs.Groups.{group_of}
use Rattle.replica_rules.specs.Voting.{least_of}
use Rattle.unanimous_certificate.specs.Kept.{claims_in}
use Rattle.unanimous_certificate.proofs.Grouped.{greatest_of_first}
use Rattle.unanimous_certificate.proofs.claims.Claims.committed.Given as goal

abbrev pub invariant-regions : goal.invariant-regions
invariant-regions l = l.greatest ≡ greatest_of_first (λ g. least_of (map (claims_in l.self) (group_of l.self.shape g))) l.region
