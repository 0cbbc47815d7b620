use Rattle.law_claimed.proofs.Sessions.{all_batches_claimed}
use Rattle.law_claimed.proofs.served_sessions_are_claimed.Goals as goal

pub returns : goal.returns
returns c shape key known front s is own = all_batches_claimed shape key known front is s own
