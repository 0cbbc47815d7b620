use Rattle.std.proofs.Common.{◌∙◌, refl, sym}
use Rattle.open_reads.proofs.Kept.{keeps_all}
use Rattle.open_reads.proofs.Told.{told_none, none_asked}
use Rattle.open_reads.proofs.answering.answer_read.Goals as goal

pub returns-in-None-clause-told : goal.returns-in-None-clause-told
returns-in-None-clause-told c = λ client bears.
    told_none c.args.pipeline.now.window.shape c.args.reads.now client c.args.pipeline.now c.args.from c.args.answer c.args.step.now c.args.step.now c.args.reads.now.asked
    c.requires.shape bears (none_asked c.args.reads.now c.args.from c.args.answer c.count.ensures.numbers (sym c.question.ensures.question ∙ c.in-None.is)) refl refl refl

pub returns-in-None-clause-keeps : goal.returns-in-None-clause-keeps
returns-in-None-clause-keeps c = keeps_all c.args.reads.now.asked
