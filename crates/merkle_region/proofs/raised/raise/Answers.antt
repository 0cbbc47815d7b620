use Rattle.std.proofs.Common.{◌≡◌, ◌+◌, ◌*◌, ◌-◌, ◌<◌, arith}
use Rattle.salus_hash.specs.Hash.{inner}
use Rattle.merkle_region.proofs.Raising.{IsRising, rising-last}
use Rattle.merkle_region.proofs.raised.raise.Goals as goal

pub next_digest-digest-requires-clause-last : goal.next_digest-digest-requires-clause-last
next_digest-digest-requires-clause-last c = λ some.
    rw c.as_slice.ensures.value (rising-last inner c.len-width.result c.pairs.pair c.args.digests.items c.pairs.digests.items c.pairs.invariant.1 c.pairs.invariant.0 some)
