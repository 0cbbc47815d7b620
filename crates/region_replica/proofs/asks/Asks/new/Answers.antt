use Rattle.std.proofs.Common.{sym, subst}
use Rattle.region_replica.specs.Keeping.{IsRising}
use Rattle.region_replica.proofs.asks.Asks.new.Goals as goal

pub invariant_of-result : goal.invariant_of-result
unfolding IsRising
invariant_of-result c = subst (λ l. IsRising l) (sym c.new.ensures.items) tt
