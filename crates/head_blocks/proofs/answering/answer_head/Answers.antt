use Rattle.std.proofs.Common.{◌≡◌, ◌∙◌, ◌++◌, ◌∷◌, [], List, map, refl, ap, sym, subst}
use Rattle.std.proofs.lemmas.Result.{IfOk-weaker, on_ok_weaker}
use Rattle.schedule_text.specs.declared.schedule.Volume.{Volume}
use Rattle.salus_model.specs.Waiting.{Taken}
use Rattle.client_rules.specs.State.{Serving, to_all}
use Rattle.client_rules.specs.Tables.{ask_of}
use Rattle.client_premises.specs.Premises.{AnswerIsApart}
use Rattle.posting.specs.Letters.{out_of_letter}
use Rattle.pruned_volume.specs.Trees.{AgreesAll}
use Rattle.head_blocks.specs.Headed.{IsHeaded, IsLeft}
use Rattle.head_blocks.specs.Advancing.{BearsHead, IsTold, head_told}
use Rattle.head_blocks.specs.Weighing.{IsWeighed}
use Rattle.head_blocks.specs.Ending.{IsEnding, fault_in}
use Rattle.head_blocks.proofs.Judged.{grafted_told, stale_told, struck_told, unknown_told}
use Rattle.head_blocks.proofs.Standing.{grafted_left, struck_left}
use Rattle.head_blocks.proofs.answering.answer_head.Goals as goal

pub returns-in-Unknown-clause-told : goal.returns-in-Unknown-clause-told
returns-in-Unknown-clause-told c = λ volume client shape bears apart.
    unknown_told volume client c.args.from c.args.answer.now c.args.trees.now c.weigh.new.trees c.args.asked.now c.weigh.new.asked.asked (c.requires.questions ∙ sym shape) bears.same
    (subst (λ w. IsWeighed w c.args.trees.now c.weigh.new.trees c.args.asked.now c.weigh.new.asked.asked c.args.from c.number_of-number.result c.args.answer.now) c.in-Unknown.is c.in_ok-weigh.ensures.weighed)
    c.args.step.now

pub returns-in_ok-ask_again-in-Stale-clause-told : goal.returns-in_ok-ask_again-in-Stale-clause-told
returns-in_ok-ask_again-in-Stale-clause-told c = λ volume client shape bears apart.
    stale_told volume client c.args.from c.args.answer.now c.args.trees.now c.weigh.new.trees c.args.asked.now c.weigh.new.asked.asked (c.requires.questions ∙ sym shape) bears.same
    c.number_of-number.result (c.requires.trees ∙ sym shape) bears.agrees (c.number_of-number.ensures.stands client bears.stands)
    (subst (λ w. IsWeighed w c.args.trees.now c.weigh.new.trees c.args.asked.now c.weigh.new.asked.asked c.args.from c.number_of-number.result c.args.answer.now) c.in-Stale.is c.in_ok-weigh.ensures.weighed)
    c.args.step.now (record { outs = c.ask_again.new.outs; lines = c.args.step.now.lines })
    (λ o found.
    c.in_ok-ask_again-in-Stale.ensures client o bears.stands found
    ∙ ap (λ s. c.args.step.now.outs.items ++ map out_of_letter (to_all (c.args.from ∷ []) (ask_of s client o.question))) (sym shape))
    refl

pub returns-in-Struck-clause-told : goal.returns-in-Struck-clause-told
returns-in-Struck-clause-told c =
    IfOk-weaker c.end_if_faulted.result
    (λ h. IsEnding h c.weigh.new.trees c.end_if_faulted.new.trees c.weigh.new.asked.asked c.end_if_faulted.new.asked.asked (fault_in c.args.answer.now.read c.weigh.new.asked.asked) c.args.step.now c.end_if_faulted.new.step)
    (λ h. (volume : Volume) (client : Serving) → volume.geometry ≡ c.args.pipeline.now.window.shape → BearsHead c.args.pipeline.now c.args.trees.now c.args.asked.now.asked client → AnswerIsApart c.args.pipeline.now.window.shape client c.args.answer.now
    → IsTold h volume client (head_told volume client c.args.from c.args.answer.now) c.end_if_faulted.new.asked.asked c.args.step.now c.end_if_faulted.new.step)
    (λ h ending volume client shape bears apart.
    struck_told volume client c.args.from c.args.answer.now c.args.trees.now c.weigh.new.trees c.args.asked.now c.weigh.new.asked.asked (c.requires.questions ∙ sym shape) bears.same
    c.number_of-number.result (c.requires.trees ∙ sym shape) bears.agrees (c.number_of-number.ensures.stands client bears.stands) c.count-count.ensures.numbers
    (subst (λ w. IsWeighed w c.args.trees.now c.weigh.new.trees c.args.asked.now c.weigh.new.asked.asked c.args.from c.number_of-number.result c.args.answer.now) c.in-Struck.is c.in_ok-weigh.ensures.weighed)
    h c.end_if_faulted.new.trees c.end_if_faulted.new.asked.asked c.args.step.now c.end_if_faulted.new.step ending)
    c.end_if_faulted.ensures.ending

pub returns-in-Struck-clause-agrees : goal.returns-in-Struck-clause-agrees
returns-in-Struck-clause-agrees c =
    let struck = subst (λ w. IsWeighed w c.args.trees.now c.weigh.new.trees c.args.asked.now c.weigh.new.asked.asked c.args.from c.number_of-number.result c.args.answer.now) c.in-Struck.is c.in_ok-weigh.ensures.weighed in
    on_ok_weaker c.end_if_faulted.result
    (λ agrees client bears apart. agrees client.contents (subst (λ k. AgreesAll k client.contents) (sym struck.trees) bears.agrees))
    c.end_if_faulted.ensures.agrees

pub returns-in-Struck-clause-headed : goal.returns-in-Struck-clause-headed
returns-in-Struck-clause-headed c =
    IfOk-weaker c.end_if_faulted.result
    (λ h. IsEnding h c.weigh.new.trees c.end_if_faulted.new.trees c.weigh.new.asked.asked c.end_if_faulted.new.asked.asked (fault_in c.args.answer.now.read c.weigh.new.asked.asked) c.args.step.now c.end_if_faulted.new.step)
    (λ h. (line : List Taken) → IsHeaded c.args.trees.now c.args.asked.now.asked line → IsLeft h c.end_if_faulted.new.trees c.end_if_faulted.new.asked.asked line)
    (λ h ending line headed.
    struck_left c.args.trees.now c.weigh.new.trees c.args.asked.now c.weigh.new.asked.asked c.args.from c.number_of-number.result c.args.answer.now h c.end_if_faulted.new.trees c.end_if_faulted.new.asked.asked
    (fault_in c.args.answer.now.read c.weigh.new.asked.asked) c.args.step.now c.end_if_faulted.new.step
    (subst (λ w. IsWeighed w c.args.trees.now c.weigh.new.trees c.args.asked.now c.weigh.new.asked.asked c.args.from c.number_of-number.result c.args.answer.now) c.in-Struck.is c.in_ok-weigh.ensures.weighed)
    ending line headed)
    c.end_if_faulted.ensures.ending

pub returns-in-Grafted-clause-told : goal.returns-in-Grafted-clause-told
returns-in-Grafted-clause-told c = λ volume client shape bears apart.
    subst (λ h. IsTold h volume client (head_told volume client c.args.from c.args.answer.now) c.weigh.new.asked.asked c.args.step.now c.args.step.now) (sym c.headway_after.ensures)
    (grafted_told volume client c.args.from c.args.answer.now c.args.trees.now c.weigh.new.trees c.args.asked.now c.weigh.new.asked.asked (c.requires.questions ∙ sym shape) bears.same
    c.number_of-number.result (c.requires.trees ∙ sym shape) bears.agrees (c.number_of-number.ensures.stands client bears.stands)
    (subst (λ w. IsWeighed w c.args.trees.now c.weigh.new.trees c.args.asked.now c.weigh.new.asked.asked c.args.from c.number_of-number.result c.args.answer.now) c.in-Grafted.is c.in_ok-weigh.ensures.weighed)
    c.args.step.now)

pub returns-in-Grafted-clause-headed : goal.returns-in-Grafted-clause-headed
returns-in-Grafted-clause-headed c = λ line headed.
    subst (λ h. IsLeft h c.weigh.new.trees c.weigh.new.asked.asked line) (sym c.headway_after.ensures)
    (grafted_left c.args.trees.now c.weigh.new.trees c.args.asked.now c.weigh.new.asked.asked c.args.from c.number_of-number.result c.args.answer.now c.count-count.ensures.numbers
    (subst (λ w. IsWeighed w c.args.trees.now c.weigh.new.trees c.args.asked.now c.weigh.new.asked.asked c.args.from c.number_of-number.result c.args.answer.now) c.in-Grafted.is c.in_ok-weigh.ensures.weighed)
    c.weigh.ensures.trees line headed)
