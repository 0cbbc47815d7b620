use Rattle.std.proofs.Common.{◌≡◌, ◌∙◌, true, false, set, get_or, None, Some, ap, sym}
use Rattle.replica_rules.specs.Voting.{is_above_vote}
use Rattle.unanimous_certificate.specs.Kept.{KeptVotes, votes_in}
use Rattle.unanimous_certificate.proofs.Placing.{kept_in, vote_step}
use Rattle.unanimous_certificate.proofs.votes.Votes.take.Goals as goal

pub returns-then-is_above_vote-clause-votes : goal.returns-then-is_above_vote-clause-votes
returns-then-is_above_vote-clause-votes c =
    let kept : KeptVotes = record { shape = c.self.inside.geometry; places = c.self.inside.places.items } in
    let above : true ≡ is_above_vote c.args.seq (get_or kept.places c.vote_place-index.result None) = cc in
    ap (λ v. votes_in (kept_in kept.shape (set kept.places c.vote_place-index.result (Some v)))) c.new.ensures
    ∙ vote_step kept c.args.self.now c.self.view_is c.args.node c.args.seq c.args.root c.self.invariant c.requires.region c.requires.replica
    c.vote_place-index.result c.vote_place-index.ensures true above

pub returns-else-is_above_vote-clause-votes : goal.returns-else-is_above_vote-clause-votes
returns-else-is_above_vote-clause-votes c =
    let kept : KeptVotes = record { shape = c.self.inside.geometry; places = c.self.inside.places.items } in
    let above : false ≡ is_above_vote c.args.seq (get_or kept.places c.vote_place-index.result None) = cc in
    ap votes_in (sym c.self.view_is)
    ∙ vote_step kept c.args.self.now c.self.view_is c.args.node c.args.seq c.args.root c.self.invariant c.requires.region c.requires.replica
    c.vote_place-index.result c.vote_place-index.ensures false above
