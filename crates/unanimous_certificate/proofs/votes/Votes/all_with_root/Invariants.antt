use Rattle.std.proofs.Common.{◌≡◌, ℕ, ◌<◌, true}
use Rattle.replica_rules.specs.Voting.{is_root, root_in}
use Rattle.unanimous_certificate.specs.Kept.{votes_in}
use Rattle.unanimous_certificate.proofs.Grouped.{replica_of}
use Rattle.unanimous_certificate.proofs.votes.Votes.all_with_root.Given as goal

abbrev pub invariant-replicas : goal.invariant-replicas
invariant-replicas l = (r : ℕ) → r < l.replica → is_root l.root (root_in l.seq (votes_in l.self (replica_of l.region r) l.seq)) ≡ true
