use Rattle.law_covered.proofs.Whole.{nodes_cover}
use Rattle.law_covered.proofs.counting_nodes_cover.Goals as goal

pub returns : goal.returns
returns c = nodes_cover
