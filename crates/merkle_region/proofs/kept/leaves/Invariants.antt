use Rattle.std.proofs.Common.{◌≡◌, map, take}
use Rattle.salus_hash.specs.Hash.{leaf}
use Rattle.merkle_region.proofs.kept.leaves.Given as goal

abbrev pub invariant-each : goal.invariant-each
invariant-each l = l.digests.items ≡ map leaf (take l.i l.blocks)
