use Rattle.std.proofs.Common.{sym, ap, subst}
use Rattle.replica_rules.specs.Rules.{Receives}
use Rattle.salus_types.specs.declared.names.Sender.{Sender}
use Rattle.salus_model.specs.declared.trace.Handed.TheVariants as handed
use Rattle.salus_world.specs.Kept.{HasStepped, PassesAt}
use Rattle.salus_world.proofs.Acting.{lie_done}
use Rattle.salus_world.proofs.world.World.lie.Goals as goal

pub returns-in_ok-lie_to_client-in-Client-clause-does : goal.returns-in_ok-lie_to_client-in-Client-clause-does
returns-in_ok-lie_to_client-in-Client-clause-does g c = λ number origin volume all course low at kept.
    let old = c.args.self.now in
    let now = c.lie_to_client.new.self in
    lie_done origin volume all number old now course low kept c.args.from c.args.to c.args.bytes.now
    (subst (λ (p : Sender). HasStepped origin volume all number number p (handed.Lie c.args.from c.args.bytes.now) old now course) (sym c.in-Client.is) (c.in_ok-lie_to_client-in-Client.ensures.steps origin volume all number number course kept))

pub returns-in_ok-lie_to_node-in-Node-clause-does : goal.returns-in_ok-lie_to_node-in-Node-clause-does
returns-in_ok-lie_to_node-in-Node-clause-does g c = λ number origin volume all course low at kept.
    let old = c.args.self.now in
    let now = c.lie_to_node.new.self in
    lie_done origin volume all number old now course low kept c.args.from c.args.to c.args.bytes.now
    (subst (λ (p : Sender). HasStepped origin volume all number number p (handed.Lie c.args.from c.args.bytes.now) old now course) (sym c.in-Node.is) (c.in_ok-lie_to_node-in-Node.ensures.steps origin volume all number number course kept))

pub returns-in_ok-lie_to_client-in-Client-clause-moments : goal.returns-in_ok-lie_to_client-in-Client-clause-moments
returns-in_ok-lie_to_client-in-Client-clause-moments g c = subst (λ (p : Sender). PassesAt p (Receives c.args.from c.args.bytes.now) c.args.self.now c.lie_to_client.new.self) (sym c.in-Client.is) (ap (λ v. v.items) c.lie_to_client.ensures.nodes)

pub returns-in_ok-lie_to_node-in-Node-clause-moments : goal.returns-in_ok-lie_to_node-in-Node-clause-moments
returns-in_ok-lie_to_node-in-Node-clause-moments g c = subst (λ (p : Sender). PassesAt p (Receives c.args.from c.args.bytes.now) c.args.self.now c.lie_to_node.new.self) (sym c.in-Node.is) c.in_ok-lie_to_node-in-Node.ensures.moments
