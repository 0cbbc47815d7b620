use Rattle.std.proofs.Common.{◌≡◌, ◌∙◌, ◌++◌, ◌∷◌, [], true, ap, sym, rules}
use Rattle.restart_pool.proofs.Keeping.{kept-base}
use Rattle.restart_pool.proofs.pool.Pool.add_base.Goals as goal

pub invariant_of-self-2 : goal.invariant_of-self-2
invariant_of-self-2 c =
    let p = c.self.inside in
    let yes : c.in_ok-base_counts.field-0 ≡ true = search rules in
    let bases : c.put-2.new.items.items ≡ p.bases.items ++ c.args.base.now ∷ []
    = c.put-2.ensures ∙ (ap (λ bs. bs ++ c.in_ok-copy.copy ∷ []) c.in_ok-reserve-2.ensures.items ∙ ap (λ b. p.bases.items ++ b ∷ []) c.in_ok-copy.ensures) in
    rw bases (kept-base p.geometry p.bases.items p.parts.items p.index c.self.invariant c.args.key.now c.args.base.now (sym c.in_ok-base_counts.ensures ∙ yes))
