use Rattle.std.proofs.Common.{◌∙◌, ◌<◌, sym, subst, refl, take}
use Rattle.salus_types.specs.Volume.{blocks}
use Rattle.volume_model.specs.Contents.{apply}
use Rattle.pruned_volume.specs.Trees.{IsKnownWrite, AgreesAll}
use Rattle.pruned_volume.proofs.Renewing.{one_write, no_write}
use Rattle.pruned_volume.proofs.volume.PrunedVolume.put_leaves.Goals as goal

pub writes-init : goal.writes-init
writes-init c = record { shape = refl; stays = λ b within known. known; agrees = λ contents a. subst (AgreesAll c.args.self.now) (no_write contents) a }

pub put_leaf-requires : goal.put_leaf-requires
put_leaf-requires c =
    let r : IsKnownWrite c.args.self.now c.write-item.result = subst (IsKnownWrite c.args.self.now) (sym c.write-item.is) (c.requires c.writes.write-index c.write-item.result c.writes-test.true) in
    record { within = subst (λ s. c.write-item.result.block < blocks s) (sym c.writes.invariant.shape) r.within; known = c.writes.invariant.stays c.write-item.result.block r.within r.known }

pub writes-preserved : goal.writes-preserved
writes-preserved c = record {
  shape = c.put_leaf.ensures.shape ∙ c.writes.invariant.shape;
  stays = λ b within known. c.put_leaf.ensures.stays b (subst (λ s. b < blocks s) (sym c.writes.invariant.shape) within) (c.writes.invariant.stays b within known);
  agrees = λ contents a.
      subst (AgreesAll c.put_leaf.new.self) (one_write c.args.batch.now c.writes.write-index c.write-item.result contents c.writes-test.true c.write-item.is)
      (c.put_leaf.ensures.agrees (apply contents (take c.writes.write-index c.args.batch.now)) (c.writes.invariant.agrees contents a));
}
