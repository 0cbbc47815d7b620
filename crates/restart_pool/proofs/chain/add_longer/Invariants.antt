use Rattle.std.specs.Prelude.{option_copied}
use Rattle.restart_pool.specs.Following.{seen}
use Rattle.restart_pool.proofs.Walking.{IsWalked, below}
use Rattle.restart_pool.proofs.chain.add_longer.Given as goal

abbrev pub invariant-places : goal.invariant-places
invariant-places l = IsWalked (seen l.lane) l.way l.initial.longer.items l.longer.items l.next (option_copied l.tried)

abbrev pub decreases-places : goal.decreases-places
decreases-places l = below l.next
