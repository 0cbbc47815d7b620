use Rattle.std.proofs.Common.{◌∙◌, refl, ap}
use Rattle.std.proofs.lemmas.Result.{on_ok_weaker}
use Rattle.verified_read.specs.Judging.{left_by}
use Rattle.open_reads.proofs.Told.{asked_there, told_none, told_again, told_block, told_past, told_bad}
use Rattle.open_reads.proofs.Kept.{keeps_left, keeps_on}
use Rattle.open_reads.proofs.answering.answer_open.Goals as goal

pub ask_node-requires-clause-there : goal.ask_node-requires-clause-there
ask_node-requires-clause-there c =
    asked_there c.args.pipeline.now c.args.reads.now c.args.from c.args.answer c.args.question.now c.number_of-number.result c.root_of-root.result
    (record { shape = c.requires.shape; own = c.requires.own; named = c.requires.named; numbered = c.number_of-number.ensures.stands; rooted = c.root_of-root.ensures.stands })
    ((c.take_answer.ensures.stale c.in-Stale.at).0 c.in-Stale.is).0

pub returns-in-Unknown-clause-told : goal.returns-in-Unknown-clause-told
returns-in-Unknown-clause-told c = λ client bears.
    told_none c.args.pipeline.now.window.shape c.args.reads.now client c.args.pipeline.now c.args.from c.args.answer c.args.step.now c.args.step.now c.take_answer.new.self.asked
    c.requires.shape bears (c.take_answer.ensures.unknown.0 c.in-Unknown.is)
    (c.take_answer.ensures.asked ∙ ap (λ v. left_by c.args.answer c.args.from.replica c.number_of-number.result v c.args.reads.now.asked) c.in-Unknown.is) refl refl

pub returns-in-Stale-clause-told : goal.returns-in-Stale-clause-told
returns-in-Stale-clause-told c =
    on_ok_weaker c.ask_node.result
    (λ outs client bears.
    told_again c.args.pipeline.now c.args.reads.now c.args.from c.args.answer c.args.question.now c.number_of-number.result c.root_of-root.result
    (record { shape = c.requires.shape; own = c.requires.own; named = c.requires.named; numbered = c.number_of-number.ensures.stands; rooted = c.root_of-root.ensures.stands })
    ((c.take_answer.ensures.stale c.in-Stale.at).0 c.in-Stale.is).0 client bears c.args.step.now (record c.args.step.now { outs = c.ask_node.new.outs }) c.take_answer.new.self.asked
    ((c.take_answer.ensures.stale c.in-Stale.at).0 c.in-Stale.is).1
    (c.take_answer.ensures.asked ∙ ap (λ v. left_by c.args.answer c.args.from.replica c.number_of-number.result v c.args.reads.now.asked) c.in-Stale.is) (outs client bears.stands) refl)
    c.ask_node.ensures

pub returns-in-Block-clause-told : goal.returns-in-Block-clause-told
returns-in-Block-clause-told c =
    on_ok_weaker c.end_read.result
    (λ lines client bears.
    told_block c.args.pipeline.now c.args.reads.now c.args.from c.args.answer c.args.question.now c.number_of-number.result c.root_of-root.result
    (record { shape = c.requires.shape; own = c.requires.own; named = c.requires.named; numbered = c.number_of-number.ensures.stands; rooted = c.root_of-root.ensures.stands })
    (c.take_answer.ensures.block.0 c.in-Block.is).0.0 client bears c.args.step.now (record c.args.step.now { lines = c.end_read.new.lines }) c.take_answer.new.self.asked
    (c.take_answer.ensures.block.0 c.in-Block.is)
    (c.take_answer.ensures.asked ∙ ap (λ v. left_by c.args.answer c.args.from.replica c.number_of-number.result v c.args.reads.now.asked) c.in-Block.is) refl lines)
    c.end_read.ensures

pub returns-in-Past-clause-told : goal.returns-in-Past-clause-told
returns-in-Past-clause-told c =
    on_ok_weaker c.end_faulted.result
    (λ ended client bears.
    told_past c.args.pipeline.now c.args.reads.now c.args.from c.args.answer c.args.question.now c.number_of-number.result c.root_of-root.result
    (record { shape = c.requires.shape; own = c.requires.own; named = c.requires.named; numbered = c.number_of-number.ensures.stands; rooted = c.root_of-root.ensures.stands })
    ((c.take_answer.ensures.past c.in-Past.at).0 c.in-Past.is).0 client bears c.args.step.now (record c.args.step.now { lines = c.end_faulted.new.lines }) c.end_faulted.new.reads.asked
    c.in-Past.at c.take_answer.new.self.asked (((c.take_answer.ensures.past c.in-Past.at).0 c.in-Past.is).1, ((c.take_answer.ensures.past c.in-Past.at).0 c.in-Past.is).2)
    (c.take_answer.ensures.asked ∙ ap (λ v. left_by c.args.answer c.args.from.replica c.number_of-number.result v c.args.reads.now.asked) c.in-Past.is) refl ended)
    c.end_faulted.ensures.ended

pub returns-in-Bad-clause-told : goal.returns-in-Bad-clause-told
returns-in-Bad-clause-told c =
    on_ok_weaker c.end_faulted-in-Bad.result
    (λ ended client bears.
    told_bad c.args.pipeline.now c.args.reads.now c.args.from c.args.answer c.args.question.now c.number_of-number.result c.root_of-root.result
    (record { shape = c.requires.shape; own = c.requires.own; named = c.requires.named; numbered = c.number_of-number.ensures.stands; rooted = c.root_of-root.ensures.stands })
    ((c.take_answer.ensures.bad c.in-Bad.held c.in-Bad.got).0 c.in-Bad.is).0.0 client bears c.args.step.now (record c.args.step.now { lines = c.end_faulted-in-Bad.new.lines }) c.end_faulted-in-Bad.new.reads.asked
    c.in-Bad.held c.in-Bad.got c.take_answer.new.self.asked ((c.take_answer.ensures.bad c.in-Bad.held c.in-Bad.got).0 c.in-Bad.is).0.1 (((c.take_answer.ensures.bad c.in-Bad.held c.in-Bad.got).0 c.in-Bad.is).1, ((c.take_answer.ensures.bad c.in-Bad.held c.in-Bad.got).0 c.in-Bad.is).2, ((c.take_answer.ensures.bad c.in-Bad.held c.in-Bad.got).0 c.in-Bad.is).3)
    (c.take_answer.ensures.asked ∙ ap (λ v. left_by c.args.answer c.args.from.replica c.number_of-number.result v c.args.reads.now.asked) c.in-Bad.is) refl ended)
    c.end_faulted-in-Bad.ensures.ended

pub returns-in-Unknown-clause-keeps : goal.returns-in-Unknown-clause-keeps
returns-in-Unknown-clause-keeps c = keeps_left c.args.reads.now.asked c.take_answer.new.self.asked c.args.answer c.args.from.replica c.number_of-number.result c.take_answer.result c.take_answer.ensures.asked

pub returns-in-Stale-clause-keeps : goal.returns-in-Stale-clause-keeps
returns-in-Stale-clause-keeps c = keeps_left c.args.reads.now.asked c.take_answer.new.self.asked c.args.answer c.args.from.replica c.number_of-number.result c.take_answer.result c.take_answer.ensures.asked

pub returns-in-Block-clause-keeps : goal.returns-in-Block-clause-keeps
returns-in-Block-clause-keeps c = keeps_left c.args.reads.now.asked c.take_answer.new.self.asked c.args.answer c.args.from.replica c.number_of-number.result c.take_answer.result c.take_answer.ensures.asked

pub returns-in-Past-clause-keeps : goal.returns-in-Past-clause-keeps
returns-in-Past-clause-keeps c = keeps_on c.args.reads.now.asked c.take_answer.new.self.asked c.end_faulted.new.reads.asked
    (keeps_left c.args.reads.now.asked c.take_answer.new.self.asked c.args.answer c.args.from.replica c.number_of-number.result c.take_answer.result c.take_answer.ensures.asked) c.end_faulted.ensures.keeps

pub returns-in-Bad-clause-keeps : goal.returns-in-Bad-clause-keeps
returns-in-Bad-clause-keeps c = keeps_on c.args.reads.now.asked c.take_answer.new.self.asked c.end_faulted-in-Bad.new.reads.asked
    (keeps_left c.args.reads.now.asked c.take_answer.new.self.asked c.args.answer c.args.from.replica c.number_of-number.result c.take_answer.result c.take_answer.ensures.asked) c.end_faulted-in-Bad.ensures.keeps
