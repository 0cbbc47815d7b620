use Rattle.std.proofs.Common.{take}
use Rattle.restart_pool.specs.Following.{seen, NoneBegins}
use Rattle.restart_pool.proofs.chain.any_whole.Given as goal

abbrev pub invariant-ways : goal.invariant-ways
invariant-ways l = NoneBegins (seen l.lane) (take l.way-index l.ways)
