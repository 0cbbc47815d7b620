use Rattle.law_shown.proofs.Along.{nodes_show}
use Rattle.law_shown.proofs.nodes_show_what_was_handed.Goals as goal

pub returns : goal.returns
returns c = record { shows = nodes_show }
