use Rattle.law_complete.proofs.QuestionsLaw.{none_left}
use Rattle.law_complete.proofs.questions.no_question_is_left.Goals as goal

pub returns : goal.returns
returns c = none_left
