use Rattle.std.proofs.Common.{◌∙◌, ◌+◌, refl, sym, ap, subst, List, ℕ}
use Rattle.salus_types.specs.Volume.{Shape}
use Rattle.salus_types.specs.declared.names.Sender.TheVariants as sender
use Rattle.schedule_text.specs.Limits.{IsPartyOfVolume}
use Rattle.salus_model.specs.declared.trace.Handed.TheVariants as handed
use Rattle.salus_model.specs.Following.{posted}
use Rattle.salus_model.specs.Hearing.{news_from}
use Rattle.client_rules.specs.Rules.{told}
use Rattle.client_node.specs.declared.node.ClientNode.{ClientNode}
use Rattle.client_node.specs.Standing.{IsTold, shape_of, newest_of}
use Rattle.salus_world.proofs.Acting.{Posts, heard_kept, marks_set, news_at, message_within}
use Rattle.salus_world.proofs.NodeSteps.{posted_sent}
use Rattle.salus_world.proofs.world.World.deliver_to_client.Goals as goal

pub receive-requires : goal.receive-requires
receive-requires g c =
    let k = c.requires.kept in
    let m = c.message_at-message.result.now in
    subst (λ (s : Shape). IsPartyOfVolume s m.from) (k.6.geometry ∙ sym k.6.shape) (message_within k.0 k.1 k.2 k.3 k.4 c.args.self.now k.5 k.6 c.args.index m c.message_at-message.ensures).0

pub returns-clause-steps : goal.returns-clause-steps
returns-clause-steps g c = λ origin volume all b n course kept.
    let step = c.in_ok-step.step in
    let client = c.tell.ensures.client in
    let old = c.args.self.now in
    let now = c.tell.new.self in
    let m = c.message_at-message.result.now in
    let bytes = c.as_slice.result.now in
    let index = c.args.index in
    let what = handed.Deliver (index + 1) in
    let mid = c.mark_delivered.new.sent.items in
    let added : Posts sender.Client step.outs.items mid old now =
    record { sent = c.in_ok-tell.ensures.sent; posts = c.mark_delivered.ensures.posts; lowest = c.tell.ensures.same.1; geometry = c.tell.ensures.same.0 } in
    heard_kept origin volume all b n old now course kept what step.outs.items step.lines.items mid added
    (ap (λ v. v.items) c.tell.ensures.nodes) c.in_ok-tell.ensures.lines
    (marks_set origin volume all b n old now course kept sender.Client step.outs.items mid added what index c.requires.inside c.mark_delivered.ensures.marks (λ k. refl))
    (ap shape_of client ∙ c.receive.ensures.shape) refl step refl refl m.from bytes (message_within origin volume all b n old course kept index m c.message_at-message.ensures).0
    (λ posts front. news_at origin volume all b n old now course kept index (posted m) (posted_sent old.sent.items index m c.message_at-message.ensures) posts front ∙ ap (λ (l : List ℕ). news_from m.from l) (sym c.as_slice.ensures)) refl
    (λ d is apart. subst (λ (cl : ClientNode). IsTold volume (told volume d n (news_from m.from bytes)) cl step) (sym client) (c.in_ok-step.ensures.rules volume d n is apart))
    (ap newest_of client ∙ c.receive.ensures.newest)
