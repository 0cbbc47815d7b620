use Rattle.std.proofs.Common.{◌≡◌, length}
use Rattle.salus_hash.specs.Hash.{above}
use Rattle.merkle_region.proofs.Raising.{IsRising}
use Rattle.merkle_volume.proofs.kept.raise.Given as goal

abbrev pub invariant-pairs : goal.invariant-pairs
invariant-pairs l = (length l.digests ≡ 31) × IsRising above l.count l.pair l.fn.digests l.digests
