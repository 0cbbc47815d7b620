use Rattle.std.proofs.Common.{not, rules}
use Rattle.std.proofs.lemmas.Fn.{filter_same}
use Rattle.replica_rules.specs.Voting.{share_place}
use Rattle.pipelined_commit.specs.Noting.{Noted}
use Rattle.pipelined_commit.proofs.noted.clear_place.Goals as goal

pub returns-clause-items : goal.returns-clause-items
returns-clause-items c = filter_same _ (λ (n : Noted). not (share_place n.seq c.args.seq)) _ (λ x b f' k. search rules) _ _ c.retain.ensures.filtered
