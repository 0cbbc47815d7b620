use Rattle.std.proofs.Common.{◌∙◌, List, filter, nat_le, ap, rules}
use Rattle.std.proofs.lemmas.Fn.{filter_same}
use Rattle.salus_types.specs.declared.records.Base.{Base}
use Rattle.datanode_store.proofs.holding.keep_bases.Goals as goal

pub returns : goal.returns
returns c =
    c.from_vec.ensures
    ∙ filter_same _ (λ base. nat_le c.args.session base.rec.header.session) _ (λ x b f' k. search rules) c.into_vec-kept.result.items c.retain.new.self.items c.retain.ensures.filtered
    ∙ ap (λ (l : List Base). filter (λ base. nat_le c.args.session base.rec.header.session) l) (search rules)
