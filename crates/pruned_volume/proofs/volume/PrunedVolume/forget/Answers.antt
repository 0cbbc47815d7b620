use Rattle.std.proofs.Common.{◌∙◌, set, sym, subst, ap}
use Rattle.client_window.proofs.Stepped.{changed_more}
use Rattle.pruned_volume.specs.Trees.{all_pruned, pruned, AreTrees, AgreesAll}
use Rattle.pruned_volume.proofs.Renewing.{all_changed, pruned_are, pruned_agree}
use Rattle.pruned_volume.proofs.volume.PrunedVolume.forget.Goals as goal

pub invariant_of-self : goal.invariant_of-self
invariant_of-self c =
    subst (AreTrees c.self.inside.geometry)
    (sym (all_changed pruned c.deref_mut-tree-items.result.now c.trees.tree-items c.self.inside.trees.items c.trees.tree-index c.self.inside.trees.len c.trees.invariant c.trees-test.false c.deref_mut-tree-items.ensures.value (sym c.self.inside.trees.ok.0)))
    (pruned_are c.self.inside.geometry c.self.inside.trees.items c.self.invariant)

pub trees-preserved : goal.trees-preserved
trees-preserved c =
    ap (set c.trees.tree-items c.trees.tree-index) c.prune_all.ensures.value
    ∙ changed_more pruned c.deref_mut-tree-items.result.now c.trees.tree-items c.trees.tree-index c.tree-item.result c.trees.invariant c.trees-test.true

pub returns-clause-value : goal.returns-clause-value
returns-clause-value c =
    ap (λ ts. record { shape = c.self.inside.geometry; trees = ts })
    (all_changed pruned c.deref_mut-tree-items.result.now c.trees.tree-items c.self.inside.trees.items c.trees.tree-index c.self.inside.trees.len c.trees.invariant c.trees-test.false c.deref_mut-tree-items.ensures.value (sym c.self.inside.trees.ok.0))
    ∙ ap all_pruned c.self.view_is

pub returns-clause-agrees : goal.returns-clause-agrees
returns-clause-agrees c = λ contents a.
    subst (λ ts. AgreesAll (record { shape = c.self.inside.geometry; trees = ts }) contents)
    (sym (all_changed pruned c.deref_mut-tree-items.result.now c.trees.tree-items c.self.inside.trees.items c.trees.tree-index c.self.inside.trees.len c.trees.invariant c.trees-test.false c.deref_mut-tree-items.ensures.value (sym c.self.inside.trees.ok.0)))
    (pruned_agree c.self.inside.geometry c.self.inside.trees.items c.self.invariant c.args.self.now c.self.view_is contents a)
