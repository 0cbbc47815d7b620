use Rattle.replica_rules.specs.Rules.{by_vote}
use Rattle.replica_node.proofs.Keeping.{vote_keeps}
use Rattle.replica_node.proofs.Readying.{turned_planned}
use Rattle.replica_node.proofs.session_rules.plan_vote.Goals as goal

pub returns-in-Ok : goal.returns-in-Ok
returns-in-Ok c = λ g held kept serves.
    turned_planned c.args.geometry.now g held c.args.session.now c.in-Some.open c.vote.new.self c.in-Ok.turn (λ s r. by_vote s c.args.from c.args.vote.now) c.in-Some.is kept serves c.vote.ensures.same c.in-Ok.ensures.turn c.in-Ok.ensures.own (λ m. vote_keeps c.args.geometry.now m c.args.from c.args.vote.now)
