use Rattle.std.proofs.Common.{◌∙◌, ◌++◌, ◌∷◌, [], None, Some, Option, List, ap, subst}
use Rattle.salus_types.specs.declared.names.Sender.TheVariants as sender
use Rattle.salus_types.specs.declared.records.Out.{Out}
use Rattle.salus_message.specs.declared.replies.Answer.{Answer}
use Rattle.salus_message.specs.declared.wire.Message.TheVariants as message
use Rattle.region_replica.specs.Asking.{IsAskTaken}
use Rattle.posting.specs.Posting.{out_to}
use Rattle.open_session.proofs.AsksTold.{ask-turned}
use Rattle.open_session.proofs.told.ask_outs.Goals as goal

pub returns-in-None-clause-turn : goal.returns-in-None-clause-turn
returns-in-None-clause-turn c = λ leader parts begun whole.
    let taken : IsAskTaken c.args.replica.now c.args.ask c.take_ask.new.replica None = subst (λ (o : Option Answer). IsAskTaken c.args.replica.now c.args.ask c.take_ask.new.replica o) c.in-None.is c.in_ok-take_ask.ensures.taken in
    ask-turned c.args.replica.now c.take_ask.new.replica c.args.ask None c.new-outs.result.items leader parts begun whole taken c.new-outs.ensures.items

pub returns-in_ok-post_answer-in-Some-clause-turn : goal.returns-in_ok-post_answer-in-Some-clause-turn
returns-in_ok-post_answer-in-Some-clause-turn c = λ leader parts begun whole.
    let answer = c.in-Some.answer in
    let taken : IsAskTaken c.args.replica.now c.args.ask c.take_ask.new.replica (Some answer) = subst (λ (o : Option Answer). IsAskTaken c.args.replica.now c.args.ask c.take_ask.new.replica o) c.in-Some.is c.in_ok-take_ask.ensures.taken in
    ask-turned c.args.replica.now c.take_ask.new.replica c.args.ask (Some answer) c.post_answer.new.outs.items leader parts begun whole taken
    (c.in_ok-post_answer-in-Some.ensures ∙ ap (λ (l : List Out). l ++ out_to sender.Client (message.Answer answer) ∷ []) c.new-outs.ensures.items)
