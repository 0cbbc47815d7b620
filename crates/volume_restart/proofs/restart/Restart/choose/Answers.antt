use Rattle.volume_restart.proofs.restart.Restart.choose.Goals as goal

pub returns-clause-exact : goal.returns-clause-exact
returns-clause-exact c = rw (← c.self.view_is, ← c.self.invariant) c.choose.ensures.exact
