use Rattle.std.proofs.Common.{◌∙◌, sym, subst}
use Rattle.pipelined_commit.specs.Noting.{IsNoted}
use Rattle.pipelined_commit.proofs.leader.Leader.new.Goals as goal

pub invariant_of-result : goal.invariant_of-result
unfolding IsNoted
invariant_of-result c = (
  c.in_ok-new-2.ensures.shape ∙ sym c.in_ok-new.ensures.shape,
  subst (λ l. IsNoted l) (sym c.in_ok-with_capacity.ensures.items) tt,
  c.in_ok-with_capacity.ensures.capacity,
)
