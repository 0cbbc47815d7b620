use Rattle.std.proofs.Common.{◌≡◌, take, true}
use Rattle.std.specs.List.{list_all}
use Rattle.replica_rules.specs.Voting.{is_unanimous_in}
use Rattle.unanimous_certificate.specs.Kept.{votes_in}
use Rattle.unanimous_certificate.proofs.votes.Votes.is_unanimous.Given as goal

abbrev pub invariant-regions : goal.invariant-regions
invariant-regions l = list_all (λ g. is_unanimous_in l.self.shape (votes_in l.self) l.seq g) (take l.region-index l.touched) ≡ true
