use Rattle.restart_pool.specs.Assembled.{AreWhole}
use Rattle.restart_pool.proofs.pool.Pool.contents.Given as goal

abbrev pub invariant-regions : goal.invariant-regions
invariant-regions l = AreWhole l.self l.session l.fronts l.region l.contents
