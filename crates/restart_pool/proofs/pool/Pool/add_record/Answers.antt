use Rattle.std.proofs.Common.{◌≡◌, ◌∙◌, ◌++◌, ◌∷◌, [], ap}
use Rattle.restart_pool.proofs.Keeping.{kept-part}
use Rattle.restart_pool.proofs.pool.Pool.add_record.Goals as goal

pub invariant_of-self-2 : goal.invariant_of-self-2
invariant_of-self-2 c =
    let p = c.self.inside in
    let parts : c.put-2.new.items.items ≡ p.parts.items ++ c.args.rec.now ∷ []
    = c.put-2.ensures ∙ (ap (λ ps. ps ++ c.in_ok-part.part ∷ []) c.in_ok-reserve-2.ensures.items ∙ ap (λ r. p.parts.items ++ r ∷ []) c.in_ok-part.ensures) in
    rw (parts, c.in_ok-push.ensures.ok) (kept-part p.geometry p.bases.items p.parts.items p.index c.self.invariant c.args.rec.now c.requires.no_run)
