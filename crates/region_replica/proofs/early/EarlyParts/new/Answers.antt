use Rattle.std.proofs.Common.{sym, subst, arith}
use Rattle.region_replica.specs.Keeping.{IsApart, IsKept}
use Rattle.region_replica.proofs.early.EarlyParts.new.Goals as goal

pub invariant_of-result : goal.invariant_of-result
unfolding IsApart
invariant_of-result c = subst (λ l. IsKept l) (sym c.new.ensures.items) (record { few = omega arith; apart = tt })
