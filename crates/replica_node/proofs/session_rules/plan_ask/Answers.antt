use Rattle.replica_rules.specs.Rules.{by_ask}
use Rattle.replica_node.proofs.Keeping.{ask_keeps}
use Rattle.replica_node.proofs.Readying.{turned_planned}
use Rattle.replica_node.proofs.session_rules.plan_ask.Goals as goal

pub returns-in-Ok : goal.returns-in-Ok
returns-in-Ok c = λ shape g held kept serves.
    turned_planned shape g held c.args.session.now c.in-Some.open c.take_ask.new.self c.in-Ok.turn (λ s r. by_ask s r c.args.ask) c.in-Some.is kept serves c.take_ask.ensures.same c.in-Ok.ensures.turn c.in-Ok.ensures.own (λ m. ask_keeps shape m g c.args.ask)
