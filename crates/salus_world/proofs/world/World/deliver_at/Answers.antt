use Rattle.std.proofs.Common.{◌≡◌, ◌∙◌, ◌+◌, sym, ap, subst}
use Rattle.salus_types.specs.declared.names.Sender.{Sender}
use Rattle.salus_types.specs.declared.names.Sender.TheVariants as sender
use Rattle.schedule_text.specs.Limits.{IsPartyOfVolume}
use Rattle.salus_model.specs.declared.trace.Handed.TheVariants as handed
use Rattle.salus_model.specs.Following.{Posted}
use Rattle.run_rules.specs.Knowing.{input_of_post}
use Rattle.salus_world.specs.Kept.{HasStepped, PassesAt}
use Rattle.salus_world.proofs.Acting.{message_within, same_message}
use Rattle.salus_world.proofs.world.World.deliver_at.Goals as goal

pub deliver_to_node-requires-clause-of : goal.deliver_to_node-requires-clause-of
deliver_to_node-requires-clause-of g c =
    let k = c.requires.kept in
    let m = c.message_at.result.now in
    subst (λ (p : Sender). IsPartyOfVolume c.args.self.now.geometry p) c.in-Node.is (message_within k.0 k.1 k.2 k.3 k.4 c.args.self.now k.5 k.6 c.args.index m c.message_at.ensures).1

pub returns-in_ok-deliver_to_client-in-Client-clause-steps : goal.returns-in_ok-deliver_to_client-in-Client-clause-steps
returns-in_ok-deliver_to_client-in-Client-clause-steps g c = λ origin volume all b n course m kept at.
    let old = c.args.self.now in
    let to : m.to ≡ sender.Client = ap (λ (p : Posted). p.to) (sym (same_message old.sent.items c.args.index c.message_at.result.now m c.message_at.ensures at)) ∙ c.in-Client.is in
    subst (λ (p : Sender). HasStepped origin volume all b n p (handed.Deliver (c.args.index + 1)) old c.deliver_to_client.new.self course) (sym to) (c.in_ok-deliver_to_client-in-Client.ensures.steps origin volume all b n course kept)

pub returns-in_ok-deliver_to_node-in-Node-clause-steps : goal.returns-in_ok-deliver_to_node-in-Node-clause-steps
returns-in_ok-deliver_to_node-in-Node-clause-steps g c = λ origin volume all b n course m kept at.
    let old = c.args.self.now in
    let to : m.to ≡ sender.Node c.in-Node.name = ap (λ (p : Posted). p.to) (sym (same_message old.sent.items c.args.index c.message_at.result.now m c.message_at.ensures at)) ∙ c.in-Node.is in
    subst (λ (p : Sender). HasStepped origin volume all b n p (handed.Deliver (c.args.index + 1)) old c.deliver_to_node.new.self course) (sym to) (c.in_ok-deliver_to_node-in-Node.ensures.steps origin volume all b n course kept)

pub returns-in_ok-deliver_to_client-in-Client-clause-moments : goal.returns-in_ok-deliver_to_client-in-Client-clause-moments
returns-in_ok-deliver_to_client-in-Client-clause-moments g c = λ m at.
    let old = c.args.self.now in
    let to : m.to ≡ sender.Client = ap (λ (p : Posted). p.to) (sym (same_message old.sent.items c.args.index c.message_at.result.now m c.message_at.ensures at)) ∙ c.in-Client.is in
    subst (λ (p : Sender). PassesAt p (input_of_post m) old c.deliver_to_client.new.self) (sym to) (ap (λ v. v.items) c.deliver_to_client.ensures.nodes)

pub returns-in_ok-deliver_to_node-in-Node-clause-moments : goal.returns-in_ok-deliver_to_node-in-Node-clause-moments
returns-in_ok-deliver_to_node-in-Node-clause-moments g c = λ m at.
    let old = c.args.self.now in
    let to : m.to ≡ sender.Node c.in-Node.name = ap (λ (p : Posted). p.to) (sym (same_message old.sent.items c.args.index c.message_at.result.now m c.message_at.ensures at)) ∙ c.in-Node.is in
    subst (λ (p : Sender). PassesAt p (input_of_post m) old c.deliver_to_node.new.self) (sym to) (c.in_ok-deliver_to_node-in-Node.ensures.moments m at)
