use Rattle.std.proofs.Common.{sym, subst}
use Rattle.region_replica.specs.Keeping.{IsKept}
use Rattle.region_replica.proofs.Apart.{IsKept-push}
use Rattle.region_replica.proofs.early.EarlyParts.keep.Goals as goal

pub invariant_of-self-2 : goal.invariant_of-self-2
invariant_of-self-2 c =
    subst (λ l. IsKept l) (sym c.in_ok-push.ensures.items)
    (IsKept-push c.self.inside.parts.items c.args.rec c.self.invariant (rw c.self.view_is c.requires.alone) (rw c.self.view_is c.requires.room))
