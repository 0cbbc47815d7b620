use Rattle.law_complete.proofs.Brought.{all_brought}
use Rattle.law_complete.proofs.sessions.messages_are_brought.Goals as goal

pub returns : goal.returns
returns c = λ volume events posts trace limits follows apart unforged calm by quiet s is. all_brought volume events posts trace limits follows apart unforged calm by quiet
