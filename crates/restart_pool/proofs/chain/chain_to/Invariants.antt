use Rattle.std.proofs.Common.{[]}
use Rattle.restart_pool.specs.Following.{seen, EachLeads, NoneIsWay, NoneFollows}
use Rattle.restart_pool.proofs.Highest.{highest}
use Rattle.restart_pool.proofs.chain.chain_to.Given as goal

abbrev pub invariant-down : goal.invariant-down
invariant-down l = EachLeads (seen l.lane) l.x l.ways.items × (NoneIsWay (seen l.lane) l.ways.items → NoneFollows (seen l.lane) l.x [])

abbrev pub decreases-down : goal.decreases-down
decreases-down l = highest l.ways.items
