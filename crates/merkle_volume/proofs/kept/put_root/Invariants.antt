use Rattle.std.proofs.Common.{◌≡◌, ◌*◌, ◌-◌, length}
use Rattle.salus_hash.specs.Hash.{above}
use Rattle.merkle_region.proofs.Raising.{IsRaisedBut}
use Rattle.merkle_volume.proofs.kept.put_root.Given as goal

abbrev pub invariant-levels : goal.invariant-levels
invariant-levels l = (length l.digests ≡ 31) × IsRaisedBut above l.count l.place l.g l.root l.fn.digests l.digests

abbrev pub decreases-levels : goal.decreases-levels
decreases-levels l = 2 * l.count - l.place
