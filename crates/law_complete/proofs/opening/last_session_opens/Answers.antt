use Rattle.law_complete.proofs.OpeningEnded.{opened}
use Rattle.law_complete.proofs.opening.last_session_opens.Goals as goal

pub returns : goal.returns
returns c = λ volume events posts trace limits follows apart unforged calm rules quiet. opened volume events posts trace limits follows apart unforged calm rules quiet
