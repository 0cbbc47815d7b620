use Rattle.law_answers.proofs.Asks.{taken_seen, kept_seen}
use Rattle.law_answers.proofs.nodes_answer_asks.Goals as goal

pub returns : goal.returns
returns c = record { taken = taken_seen; kept = kept_seen }
