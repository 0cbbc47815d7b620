use Rattle.replica_rules.specs.Rules.{by_tick}
use Rattle.replica_node.proofs.Keeping.{tick_keeps}
use Rattle.replica_node.proofs.Readying.{lent_planned}
use Rattle.replica_node.proofs.session_rules.plan_tick.Goals as goal

pub returns-in-Ok : goal.returns-in-Ok
returns-in-Ok c = λ shape g held kept serves.
    lent_planned shape g held c.args.session.now c.in-Some.open c.in-Ok.turn (λ s r. by_tick s) c.in-Some.is kept serves c.in-Ok.ensures.turn c.in-Ok.ensures.own (λ m. tick_keeps shape m)
