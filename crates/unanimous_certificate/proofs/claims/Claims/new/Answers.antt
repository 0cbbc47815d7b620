use Rattle.std.proofs.Common.{◌≡◌, ◌∙◌, ap, replicate}
use Rattle.unanimous_certificate.specs.Kept.{claims_in}
use Rattle.unanimous_certificate.proofs.Placing.{claimed_in, claims_start}
use Rattle.unanimous_certificate.proofs.claims.Claims.new.Goals as goal

pub returns-clause-claims : goal.returns-clause-claims
returns-clause-claims c =
    let fronts : c.in_ok-vec.field-0.items ≡ replicate c.nodes.result c.args.base = c.in_ok-vec.ensures.items_if_clones_equal (λ y same. same) in
    ap (λ l. claims_in (claimed_in c.args.geometry.now c.args.base l)) fronts ∙ claims_start c.args.geometry.now c.args.base c.nodes.result
