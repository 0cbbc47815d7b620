use Rattle.std.proofs.Common.{◌≡◌, ◌<◌, ℕ, true, List, take}
use Rattle.salus_types.specs.Volume.{blocks}
use Rattle.volume_model.specs.Contents.{apply}
use Rattle.pruned_volume.specs.Trees.{is_known, AgreesAll}
use Rattle.pruned_volume.proofs.volume.PrunedVolume.put_leaves.Given as goal

abbrev pub invariant-writes : goal.invariant-writes
invariant-writes l = record {
  shape : l.self.shape ≡ l.fn.self.shape;
  stays : (b : ℕ) → b < blocks l.fn.self.shape → is_known l.fn.self b ≡ true → is_known l.self b ≡ true;
  agrees : (contents : List (List ℕ)) → AgreesAll l.fn.self contents → AgreesAll l.self (apply contents (take l.write-index l.batch));
}
