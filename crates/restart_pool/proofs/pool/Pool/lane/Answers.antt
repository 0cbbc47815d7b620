use Rattle.restart_pool.proofs.pool.Pool.lane.Goals as goal

pub returns-clause-lane : goal.returns-clause-lane
returns-clause-lane c = record {
  indexed = rw c.as_slice-2.ensures.value c.self.invariant.indexed;
  rooted = rw c.as_slice.ensures.value (λ base m. (c.self.invariant.shaped base m, c.self.invariant.rooted base m));
  plain = rw c.as_slice-2.ensures.value c.self.invariant.plain;
}
