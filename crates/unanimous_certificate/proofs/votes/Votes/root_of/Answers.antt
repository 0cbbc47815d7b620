use Rattle.std.proofs.Common.{◌<◌, ap, subst, sym}
use Rattle.unanimous_certificate.specs.Kept.{KeptVotes, votes_in}
use Rattle.unanimous_certificate.proofs.Placing.{votes_at}
use Rattle.unanimous_certificate.proofs.votes.Votes.root_of.Goals as goal

pub returns : goal.returns
returns c =
    let kept : KeptVotes = record { shape = c.self.inside.geometry; places = c.self.inside.places.items } in
    let inside : c.args.node.replica < kept.shape.replicas = subst (λ (k : KeptVotes). c.args.node.replica < k.shape.replicas) (sym c.self.view_is) c.requires in
    let at = votes_at kept c.args.node c.args.seq inside in
    let is = ap (λ k. votes_in k c.args.node c.args.seq) c.self.view_is in
    cc
