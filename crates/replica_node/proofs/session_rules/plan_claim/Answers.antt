use Rattle.replica_rules.specs.Rules.{by_claim}
use Rattle.replica_node.proofs.Keeping.{claim_keeps}
use Rattle.replica_node.proofs.Readying.{turned_planned}
use Rattle.replica_node.proofs.session_rules.plan_claim.Goals as goal

pub returns-in-Ok : goal.returns-in-Ok
returns-in-Ok c = λ g held kept serves.
    turned_planned c.args.geometry.now g held c.args.session.now c.in-Some.open c.claim.new.self c.in-Ok.turn (λ s r. by_claim s c.args.from c.args.claim.now) c.in-Some.is kept serves c.claim.ensures.same c.in-Ok.ensures.turn c.in-Ok.ensures.own (λ m. claim_keeps c.args.geometry.now m c.args.from c.args.claim.now)
