use Rattle.std.proofs.Common.{◌<◌, ap, subst, sym}
use Rattle.unanimous_certificate.specs.Kept.{KeptClaims, claims_in}
use Rattle.unanimous_certificate.proofs.Placing.{claims_at}
use Rattle.unanimous_certificate.proofs.claims.Claims.front_of.Goals as goal

pub returns : goal.returns
returns c =
    let kept : KeptClaims = record { shape = c.self.inside.geometry; base = c.self.inside.base; fronts = c.self.inside.fronts.items } in
    let inside : c.args.node.replica < kept.shape.replicas = subst (λ (k : KeptClaims). c.args.node.replica < k.shape.replicas) (sym c.self.view_is) c.requires in
    let at = claims_at kept c.args.node inside in
    let is = ap (λ k. claims_in k c.args.node) c.self.view_is in
    cc
