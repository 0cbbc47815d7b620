use Rattle.restart_pool.proofs.pool.Pool.is_sound.Goals as goal

pub returns : goal.returns
returns c = rw (← c.self.view_is) (record { shaped = c.self.invariant.shaped; rooted = c.self.invariant.rooted; plain = c.self.invariant.plain })
