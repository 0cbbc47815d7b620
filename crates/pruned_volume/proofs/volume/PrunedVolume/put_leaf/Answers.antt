use Rattle.std.proofs.Common.{◌∙◌, ◌<◌, ap, sym, subst}
use Rattle.salus_types.specs.Volume.{blocks}
use Rattle.salus_hash.specs.Hash.{leaf}
use Rattle.pruned_volume.proofs.Renewing.{put_seen}
use Rattle.pruned_volume.proofs.volume.PrunedVolume.put_leaf.Goals as goal

pub returns-clause-agrees : goal.returns-clause-agrees
returns-clause-agrees c =
    put_seen c.self.inside.geometry c.self.inside.trees.items c.self.invariant c.args.self.now c.self.view_is c.region_of-region.result c.place_of-place.result
    c.index_mut.result.now c.set_leaf.new.self (c.region_of-region.ensures.within (subst (λ k. c.args.write.now.block < blocks k.shape) (sym c.self.view_is) c.requires.within))
    c.index_mut.ensures.value c.args.write.now c.region_of-region.ensures.value c.place_of-place.ensures.value c.leaf_digest.result (c.leaf_digest.ensures ∙ ap leaf c.as_slice.ensures) c.set_leaf.ensures
