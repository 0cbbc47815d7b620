use Rattle.std.proofs.Common.{◌∙◌, ◌++◌, ◌∷◌, [], map, ap, sym}
use Rattle.std.proofs.lemmas.Result.{on_ok_weaker}
use Rattle.volume_model.specs.Contents.{region_of}
use Rattle.client_rules.specs.State.{to_all}
use Rattle.client_rules.specs.Tables.{ask_of, open_at}
use Rattle.posting.specs.Letters.{out_of_letter}
use Rattle.verified_read.proofs.CallerLemmas.{open-named}
use Rattle.head_blocks.proofs.Questions.{asked_of, asked_there, some_of}
use Rattle.head_blocks.proofs.answering.ask_again.Goals as goal

pub ask_node-requires-clause-there : goal.ask_node-requires-clause-there
ask_node-requires-clause-there c =
    let one = some_of (open_at c.args.answer.now c.args.asked.now.asked) c.requires.one.asked in
    ap (λ q. region_of c.args.pipeline.now.window.shape q.block) (asked_of c.args.answer.now c.args.asked.now.asked one.0 c.in-Some.question c.count-count.ensures.numbers one.1 c.in-Some.ensures.question)
    ∙ ap (region_of c.args.pipeline.now.window.shape) (sym (open-named c.args.answer.now c.args.asked.now.asked one.0 one.1).1)
    ∙ sym (c.requires.one.group ∙ ap (λ s. region_of s c.args.answer.now.block) c.requires.shape)

pub returns-in-Some : goal.returns-in-Some
returns-in-Some c =
    on_ok_weaker c.ask_node.result
    (λ asked client o stands found.
    asked client stands
    ∙ ap (λ q. c.args.outs.now.items ++ map out_of_letter (to_all (c.args.from ∷ []) (ask_of c.args.pipeline.now.window.shape client q)))
    (asked_of c.args.answer.now c.args.asked.now.asked o c.in-Some.question c.count-count.ensures.numbers found c.in-Some.ensures.question))
    c.ask_node.ensures

pub returns-in-None : goal.returns-in-None
returns-in-None c = asked_there c.args.answer.now c.args.asked.now.asked _ c.count-count.ensures.numbers c.requires.one.asked c.in-None.ensures.free
