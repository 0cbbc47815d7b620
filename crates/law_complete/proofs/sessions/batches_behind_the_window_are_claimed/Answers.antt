use Rattle.law_complete.proofs.Window.{window_claimed}
use Rattle.law_complete.proofs.sessions.batches_behind_the_window_are_claimed.Goals as goal

pub returns : goal.returns
returns c = window_claimed
