use Rattle.std.proofs.Common.{nat_lt, rules}
use Rattle.std.proofs.lemmas.Fn.{filter_same}
use Rattle.salus_types.specs.declared.records.Record.{Record}
use Rattle.open_session.proofs.folding.drop_up_to.Goals as goal

pub returns : goal.returns
returns c = filter_same _ (λ (rec : Record). nat_lt c.args.number rec.header.seq) _ (λ x b f k. search rules) _ _ c.retain.ensures.filtered
