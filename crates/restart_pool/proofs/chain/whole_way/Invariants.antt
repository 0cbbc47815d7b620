use Rattle.std.proofs.Common.{take}
use Rattle.merkle_region.specs.Tree.{IsAmong}
use Rattle.salus_types.specs.declared.records.Base.{Base}
use Rattle.restart_pool.specs.Following.{seen, NotBegun}
use Rattle.restart_pool.proofs.chain.whole_way.Given as goal

abbrev pub invariant-bases : goal.invariant-bases
invariant-bases l = (base : Base) → IsAmong base (take l.base-index l.lane.bases.now) → NotBegun (seen l.lane) l.way base
