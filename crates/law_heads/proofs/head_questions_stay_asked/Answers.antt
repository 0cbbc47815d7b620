use Rattle.law_heads.proofs.Asked.{asks_head}
use Rattle.law_heads.proofs.head_questions_stay_asked.Goals as goal

pub returns : goal.returns
returns c = asks_head
