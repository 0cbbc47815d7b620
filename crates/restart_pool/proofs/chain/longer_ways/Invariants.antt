use Rattle.std.proofs.Common.{take}
use Rattle.restart_pool.specs.Following.{seen, AreLonger}
use Rattle.restart_pool.proofs.chain.longer_ways.Given as goal

abbrev pub invariant-ways : goal.invariant-ways
invariant-ways l = AreLonger (seen l.lane) (take l.way-index l.ways) l.longer.items
