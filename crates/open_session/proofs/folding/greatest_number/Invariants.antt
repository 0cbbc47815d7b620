use Rattle.std.proofs.Common.{◌≡◌, map, take}
use Rattle.replica_rules.specs.Voting.{greatest_of}
use Rattle.open_session.proofs.folding.greatest_number.Given as goal

abbrev pub invariant-parts : goal.invariant-parts
invariant-parts l = l.greatest ≡ greatest_of (map (λ rec. rec.header.seq) (take l.rec-index l.parts))
