use Rattle.std.proofs.Common.{◌≡◌, ◌∙◌, ◌<◌, ap, sym, subst}
use Rattle.std.proofs.lemmas.Result.{on_ok_weaker}
use Rattle.salus_types.specs.Volume.{regions}
use Rattle.volume_model.specs.Contents.{region_of, place_of}
use Rattle.salus_hash.specs.Hash.{leaf}
use Rattle.pruned_volume.proofs.Renewing.{ok_both, err_weaker, region_inside, root_seen, stays_seen, agrees_seen, same_seen}
use Rattle.pruned_volume.proofs.volume.PrunedVolume.graft.Goals as goal

pub returns-clause-root : goal.returns-clause-root
returns-clause-root c = root_seen c.self.inside.geometry c.self.inside.trees.items c.self.invariant c.args.self.now c.self.view_is c.args.answer.now.block c.requires.within

pub returns-clause-stays : goal.returns-clause-stays
returns-clause-stays c =
    let region : c.region_of-region.result ≡ region_of c.self.inside.geometry c.args.answer.now.block = c.region_of-region.ensures.value ∙ ap (region_of c.self.inside.geometry) c.from-block.ensures in
    let inside : c.region_of-region.result < regions c.self.inside.geometry
    = subst (λ g. g < regions c.self.inside.geometry) (sym region) (region_inside c.self.inside.geometry c.self.inside.trees.items c.self.invariant c.args.self.now c.self.view_is c.args.answer.now.block c.requires.within) in
    on_ok_weaker c.graft.result
    (λ grafted. stays_seen c.self.inside.geometry c.self.inside.trees.items c.self.invariant c.args.self.now c.self.view_is c.region_of-region.result c.place_of-place.result
    c.index_mut.result.now c.graft.new.self inside c.index_mut.ensures.value c.leaf_digest-leaf.result c.args.answer.now.path grafted)
    c.graft.ensures.grafted

pub returns-clause-agrees : goal.returns-clause-agrees
returns-clause-agrees c =
    let region : c.region_of-region.result ≡ region_of c.self.inside.geometry c.args.answer.now.block = c.region_of-region.ensures.value ∙ ap (region_of c.self.inside.geometry) c.from-block.ensures in
    let place : c.place_of-place.result ≡ place_of c.self.inside.geometry c.args.answer.now.block = c.place_of-place.ensures.value ∙ ap (place_of c.self.inside.geometry) c.from-block.ensures in
    let hashed : c.leaf_digest-leaf.result ≡ leaf c.args.answer.now.bytes = c.leaf_digest-leaf.ensures ∙ ap leaf c.as_slice.ensures in
    let inside : c.region_of-region.result < regions c.self.inside.geometry
    = subst (λ g. g < regions c.self.inside.geometry) (sym region) (region_inside c.self.inside.geometry c.self.inside.trees.items c.self.invariant c.args.self.now c.self.view_is c.args.answer.now.block c.requires.within) in
    ok_both c.graft.result
    (λ climbs grafted. agrees_seen c.self.inside.geometry c.self.inside.trees.items c.self.invariant c.args.self.now c.self.view_is c.region_of-region.result c.place_of-place.result
    c.index_mut.result.now c.graft.new.self inside c.index_mut.ensures.value c.args.answer.now.block c.args.answer.now.bytes c.leaf_digest-leaf.result c.args.answer.now.path place hashed climbs grafted)
    c.graft.ensures.climbs c.graft.ensures.grafted

pub returns-clause-unchanged : goal.returns-clause-unchanged
returns-clause-unchanged c =
    let region : c.region_of-region.result ≡ region_of c.self.inside.geometry c.args.answer.now.block = c.region_of-region.ensures.value ∙ ap (region_of c.self.inside.geometry) c.from-block.ensures in
    let inside : c.region_of-region.result < regions c.self.inside.geometry
    = subst (λ g. g < regions c.self.inside.geometry) (sym region) (region_inside c.self.inside.geometry c.self.inside.trees.items c.self.invariant c.args.self.now c.self.view_is c.args.answer.now.block c.requires.within) in
    err_weaker c.graft.result
    (λ same. same_seen c.self.inside.geometry c.self.inside.trees.items c.self.invariant c.args.self.now c.self.view_is c.region_of-region.result c.place_of-place.result
    c.index_mut.result.now c.graft.new.self inside c.index_mut.ensures.value same)
    c.graft.ensures.unchanged
