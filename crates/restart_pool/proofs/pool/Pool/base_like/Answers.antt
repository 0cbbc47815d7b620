use Rattle.std.proofs.Common.{◌∙◌, ap}
use Rattle.std.specs.Prelude.{slice_get}
use Rattle.std.proofs.lemmas.Option.{IfSome_then}
use Rattle.restart_pool.proofs.Walking.{among-got}
use Rattle.restart_pool.proofs.pool.Pool.base_like.Goals as goal

pub returns-in-Some : goal.returns-in-Some
returns-in-Some c = rw (← c.self.view_is)
    (IfSome_then c.base_at.result (among-got c.self.inside.bases.items c.in-Some.place c.base_at.result (c.base_at.ensures ∙ ap (λ bs. slice_get bs c.in-Some.place) c.as_slice.ensures.value))
    (λ base m. (c.self.invariant.shaped base.now m, c.self.invariant.rooted base.now m)))
