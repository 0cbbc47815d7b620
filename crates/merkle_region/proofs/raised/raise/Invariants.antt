use Rattle.std.proofs.Common.{◌≡◌, ◌+◌, length}
use Rattle.salus_hash.specs.Hash.{inner}
use Rattle.merkle_region.proofs.Raising.{IsRising}
use Rattle.merkle_region.proofs.raised.raise.Given as goal

abbrev pub invariant-pairs : goal.invariant-pairs
invariant-pairs l =
    (length l.digests.items ≡ l.width + l.pair) × IsRising inner l.width l.pair l.fn.digests.items l.digests.items
