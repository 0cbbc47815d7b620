use Rattle.serving_client.proofs.Rooms.{kept_read}
use Rattle.serving_client.proofs.answers.take_read_answer.Goals as goal

pub returns-clause-kept : goal.returns-clause-kept
returns-clause-kept c = kept_read c.args.core.now c.answer_read.new.reads c.requires.kept c.answer_read.ensures.shape c.answer_read.ensures.keeps
