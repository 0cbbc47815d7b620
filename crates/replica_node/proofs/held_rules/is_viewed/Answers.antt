use Rattle.std.proofs.Common.{◌∙◌, rules, sym}
use Rattle.std.proofs.lemmas.Slice.Eq.{slice_eq-Decides}
use Rattle.replica_node.proofs.held_rules.is_viewed.Goals as goal

pub returns : goal.returns
returns c = λ yes. sym c.as_slice.ensures ∙ ((slice_eq-Decides (λ a b. search rules) c.as_slice.result.now c.blocks-2.result.now c.eq.result c.eq.ensures).0 yes ∙ c.blocks-2.ensures.value)
