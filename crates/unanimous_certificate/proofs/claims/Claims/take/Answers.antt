use Rattle.unanimous_certificate.specs.Kept.{KeptClaims}
use Rattle.unanimous_certificate.proofs.Placing.{claim_step}
use Rattle.unanimous_certificate.proofs.claims.Claims.take.Goals as goal

pub returns-clause-claims : goal.returns-clause-claims
returns-clause-claims c =
    let kept : KeptClaims = record { shape = c.self.inside.geometry; base = c.self.inside.base; fronts = c.self.inside.fronts.items } in
    claim_step kept c.args.self.now c.self.view_is c.args.node c.args.front c.self.invariant c.requires.region c.requires.replica
    c.node_place-index.result c.index.result.now c.greater.result c.node_place-index.ensures.value c.index.ensures c.greater.ensures
