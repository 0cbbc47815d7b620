use Rattle.std.proofs.Common.{◌*◌, ◌-◌}
use Rattle.salus_hash.specs.Hash.{inner}
use Rattle.merkle_region.proofs.Raising.{IsRaisedBut}
use Rattle.merkle_region.proofs.raised.put_leaf.Given as goal

abbrev pub invariant-levels : goal.invariant-levels
invariant-levels l = IsRaisedBut inner l.width l.place l.i l.fn.leaf l.fn.digests.items l.digests.items

abbrev pub decreases-levels : goal.decreases-levels
decreases-levels l = 2 * l.width - l.place
