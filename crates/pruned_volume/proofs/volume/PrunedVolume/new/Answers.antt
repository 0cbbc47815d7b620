use Rattle.std.proofs.Common.{◌∙◌, ◌≤◌, map, length, sym, subst, ap}
use Rattle.std.proofs.lemmas.List.{take_all}
use Rattle.pruned_volume.specs.Trees.{closed_tree, AreTrees, AgreesAll}
use Rattle.pruned_volume.proofs.Renewing.{closed_are, closed_agree}
use Rattle.pruned_volume.proofs.volume.PrunedVolume.new.Goals as goal

pub invariant_of-result : goal.invariant_of-result
invariant_of-result c =
    let done : length c.args.roots.now ≤ c.roots.root-index = subst (λ rs. length rs ≤ c.roots.root-index) c.as_slice-root-items.ensures c.roots-test.false in
    subst (AreTrees c.args.geometry) (sym (c.roots.invariant ∙ ap (map (closed_tree c.args.geometry)) (take_all c.roots.root-index c.args.roots.now done)))
    (closed_are c.args.geometry c.args.roots.now c.requires)

pub returns-clause-agrees : goal.returns-clause-agrees
returns-clause-agrees c = λ contents full same.
    let done : length c.args.roots.now ≤ c.roots.root-index = subst (λ rs. length rs ≤ c.roots.root-index) c.as_slice-root-items.ensures c.roots-test.false in
    subst (λ ts. AgreesAll (record { shape = c.args.geometry; trees = ts }) contents)
    (sym (c.roots.invariant ∙ ap (map (closed_tree c.args.geometry)) (take_all c.roots.root-index c.args.roots.now done)))
    (closed_agree c.args.geometry c.args.roots.now c.requires contents full same)
