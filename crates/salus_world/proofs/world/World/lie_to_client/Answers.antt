use Rattle.std.proofs.Common.{◌∙◌, refl, sym, ap, subst}
use Rattle.salus_types.specs.Volume.{Shape}
use Rattle.salus_types.specs.declared.names.Sender.TheVariants as sender
use Rattle.schedule_text.specs.Limits.{IsPartyOfVolume}
use Rattle.salus_model.specs.declared.trace.Handed.TheVariants as handed
use Rattle.salus_model.specs.Hearing.{news_from}
use Rattle.client_rules.specs.Rules.{told}
use Rattle.client_node.specs.declared.node.ClientNode.{ClientNode}
use Rattle.client_node.specs.Standing.{IsTold, shape_of, newest_of}
use Rattle.salus_world.proofs.Acting.{Posts, heard_kept, marks_same}
use Rattle.salus_world.proofs.world.World.lie_to_client.Goals as goal

pub receive-requires : goal.receive-requires
receive-requires g c =
    let kept = c.requires.kept.6 in
    subst (λ (s : Shape). IsPartyOfVolume s c.args.from) (kept.geometry ∙ sym kept.shape) c.requires.from

pub returns-clause-steps : goal.returns-clause-steps
returns-clause-steps g c = λ origin volume all b n course kept.
    let step = c.in_ok-step.step in
    let client = c.tell.ensures.client in
    let old = c.args.self.now in
    let now = c.tell.new.self in
    let bytes = c.args.bytes.now in
    let added : Posts sender.Client step.outs.items old.sent.items old now =
    record { sent = c.in_ok-tell.ensures.sent; posts = refl; lowest = c.tell.ensures.same.1; geometry = c.tell.ensures.same.0 } in
    heard_kept origin volume all b n old now course kept (handed.Lie c.args.from bytes) step.outs.items step.lines.items old.sent.items added
    (ap (λ v. v.items) c.tell.ensures.nodes) c.in_ok-tell.ensures.lines
    (marks_same origin volume all b n old now course kept sender.Client step.outs.items old.sent.items added (handed.Lie c.args.from bytes) refl (λ k. refl))
    (ap shape_of client ∙ c.receive.ensures.shape) refl step refl refl c.args.from bytes c.requires.from (λ posts front. refl) refl
    (λ d is apart. subst (λ (cl : ClientNode). IsTold volume (told volume d n (news_from c.args.from bytes)) cl step) (sym client) (c.in_ok-step.ensures.rules volume d n is apart))
    (ap newest_of client ∙ c.receive.ensures.newest)
