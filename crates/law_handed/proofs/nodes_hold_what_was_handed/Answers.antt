use Rattle.law_handed.proofs.Origins.{held_was_handed, gathered_was_handed}
use Rattle.law_handed.proofs.nodes_hold_what_was_handed.Goals as goal

pub returns : goal.returns
returns c = record { held = held_was_handed; shown = gathered_was_handed }
