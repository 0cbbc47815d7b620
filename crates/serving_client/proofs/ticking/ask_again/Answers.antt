use Rattle.std.proofs.Common.{◌≡◌, ◌∙◌, ℕ, ◌+◌, ◌<◌, ◌≤◌, length, ap, sym, subst, arith}
use Rattle.std.proofs.lemmas.List.{length-map}
use Rattle.client_rules.specs.State.{Open}
use Rattle.verified_read.specs.Table.{questions_in}
use Rattle.serving_client.proofs.Again.{again_all, again_more, asked_inside}
use Rattle.serving_client.proofs.ticking.ask_again.Goals as goal

pub ask_group-requires : goal.ask_group-requires
ask_group-requires c =
    let count = length-map c.args.questions.now.asked (λ (o : Open). o.question) in
    asked_inside c.args.pipeline.now.window.shape c.args.questions.now.asked c.each.i c.read_at-question.result c.requires (omega (arith, count, c.count-i-end.ensures.count, c.each-test.true)) c.read_at-question.ensures

pub each-preserved : goal.each-preserved
each-preserved c = λ client stands.
    let count = length-map c.args.questions.now.asked (λ (o : Open). o.question) in
    again_more c.args.pipeline.now.window.shape client (questions_in c.args.questions.now.asked) c.each.i c.read_at-question.result c.args.outs.now.items c.each.outs.items c.ask_group.new.outs.items
    (omega (arith, count, c.count-i-end.ensures.count, c.each-test.true)) c.read_at-question.ensures (c.each.invariant client stands) (c.in_ok-ask_group.ensures client stands)

pub returns : goal.returns
returns c = λ client stands.
    again_all c.args.pipeline.now.window.shape client c.args.questions.now.asked c.each.i c.args.outs.now.items c.each.outs.items (omega (arith, c.count-i-end.ensures.count, c.each-test.false)) (c.each.invariant client stands)
