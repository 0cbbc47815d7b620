use Rattle.std.proofs.Common.{◌≡◌, drop}
use Rattle.std.specs.Prelude.{find}
use Rattle.unanimous_certificate.specs.Kept.{votes_in, claims_in}
use Rattle.pipelined_commit.specs.Noting.{may_claim}
use Rattle.pipelined_commit.proofs.certified.first_to_claim.Given as goal

abbrev pub invariant-notes : goal.invariant-notes
invariant-notes l =
    find (λ n. may_claim l.votes.shape l.base l.front (votes_in l.votes) (claims_in l.claims) n) (drop l.note-index l.noted)
    ≡ find (λ n. may_claim l.votes.shape l.base l.front (votes_in l.votes) (claims_in l.claims) n) l.noted
