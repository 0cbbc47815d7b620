use Rattle.std.proofs.Common.{◌∙◌, List, filter, nat_le, ap, rules}
use Rattle.std.proofs.lemmas.Fn.{filter_same}
use Rattle.salus_types.specs.declared.records.Record.{Record}
use Rattle.datanode_store.proofs.holding.keep_parts.Goals as goal

pub returns : goal.returns
returns c =
    c.from_vec.ensures
    ∙ filter_same _ (λ rec. nat_le c.args.session rec.header.session) _ (λ x b f' k. search rules) c.into_vec-kept.result.items c.retain.new.self.items c.retain.ensures.filtered
    ∙ ap (λ (l : List Record). filter (λ rec. nat_le c.args.session rec.header.session) l) (search rules)
