use Rattle.std.proofs.Common.{◌≡◌, take}
use Rattle.volume_restart.proofs.Holding.{with_bases, with_parts}
use Rattle.volume_restart.proofs.restart.add_held.Given as goal

abbrev pub invariant-bases : goal.invariant-bases
invariant-bases l = l.pool ≡ with_bases l.key l.initial.pool (take l.base-index l.held.bases)

abbrev pub invariant-parts : goal.invariant-parts
invariant-parts l = l.pool ≡ with_parts l.key l.initial.pool (take l.rec-index l.held.parts)
