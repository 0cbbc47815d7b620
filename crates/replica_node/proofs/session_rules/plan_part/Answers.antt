use Rattle.replica_rules.specs.Rules.{by_part}
use Rattle.replica_node.proofs.Keeping.{part_keeps}
use Rattle.replica_node.proofs.Readying.{turned_planned}
use Rattle.replica_node.proofs.session_rules.plan_part.Goals as goal

pub returns-in-Ok : goal.returns-in-Ok
returns-in-Ok c = λ shape g held kept serves.
    turned_planned shape g held c.args.session.now c.in-Some.open c.take_part.new.self c.in-Ok.turn (λ s r. by_part s r c.args.rec) c.in-Some.is kept serves c.take_part.ensures.same c.in-Ok.ensures.turn c.in-Ok.ensures.own (λ m. part_keeps shape m g c.args.rec)
