use Rattle.std.proofs.Common.{◌∙◌, ◌*◌, ap}
use Rattle.unanimous_certificate.specs.Kept.{votes_in}
use Rattle.unanimous_certificate.proofs.Placing.{kept_in, votes_none}
use Rattle.unanimous_certificate.proofs.votes.Votes.new.Goals as goal

pub returns-clause-votes : goal.returns-clause-votes
returns-clause-votes c =
    ap (λ l. votes_in (kept_in c.args.geometry.now l)) c.in_ok-no_places.ensures ∙ votes_none c.args.geometry.now (c.nodes.result * 16)
