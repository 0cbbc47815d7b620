use Rattle.std.proofs.Common.{◌≡◌, take, false}
use Rattle.volume_model.specs.Parts.{touches}
use Rattle.pruned_volume.proofs.touched.touches.Given as goal

abbrev pub invariant-writes : goal.invariant-writes
invariant-writes l = touches l.geometry (take l.write-index l.batch) l.region ≡ false
