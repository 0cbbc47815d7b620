use Rattle.std.proofs.Common.{◌≡◌, ◌∙◌, ap, sym, arith}
use Rattle.replica_rules.specs.Voting.{lesser}
use Rattle.unanimous_certificate.specs.Kept.{KeptClaims, claims_in}
use Rattle.unanimous_certificate.proofs.Grouped.{least_of_first, least_of_first-one, least_of_first-more, least_of_first-all}
use Rattle.unanimous_certificate.proofs.claims.Claims.least_in.Goals as goal

pub returns : goal.returns
returns c =
    let count : c.self.inside.geometry.replicas ≡ c.args.self.now.shape.replicas = ap (λ (k : KeptClaims). k.shape.replicas) c.self.view_is in
    let some = c.replicas-replicas.ensures.bound in
    let few = c.replicas-replicas.ensures.value in
    let all : c.replicas.replica ≡ c.args.self.now.shape.replicas = omega arith in
    c.replicas.invariant ∙ ap (λ n. least_of_first (claims_in c.args.self.now) c.args.region n) all
    ∙ least_of_first-all (claims_in c.args.self.now) c.args.self.now.shape c.args.region

pub replicas-preserved : goal.replicas-preserved
replicas-preserved c =
    c.lesser-least.ensures ∙ ap (λ n. lesser n c.front_of.result) c.replicas.invariant
    ∙ ap (λ n. lesser (least_of_first (claims_in c.args.self.now) c.args.region c.replicas.replica) n) c.front_of.ensures
    ∙ sym (least_of_first-more (claims_in c.args.self.now) c.args.region c.replicas.replica c.replicas.auto.replica)

pub replicas-init : goal.replicas-init
replicas-init c = c.front_of-least.ensures ∙ sym (least_of_first-one (claims_in c.args.self.now) c.args.region)
