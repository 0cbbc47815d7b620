use Rattle.std.proofs.Common.{ℕ, List, ◌∙◌, ap, subst}
use Rattle.merkle_pruned.specs.Node.{subtree_of}
use Rattle.merkle_pruned.specs.Path.{grafted, Meets}
use Rattle.merkle_pruned.proofs.Lawful.{Grafted-from, root_digest-kept}
use Rattle.merkle_pruned.proofs.pruned.Pruned.graft.Goals as goal
use Rattle.merkle_pruned.proofs.pruned.Pruned.graft.Goals.{then-meets, else-meets}

pub invariant_of-self-2 : goal.invariant_of-self-2
invariant_of-self-2 c =
    let opened = c.in_ok-graft.ensures.ok ∙ ap (grafted (subtree_of c.self.inside.tree) c.self.inside.height c.args.i c.args.leaf.now) c.as_slice-2.ensures in (
      c.in_ok-graft.ensures.sound,
      elim c.if-meets.branch [
        | then-meets w ↦
            rw w.self-is
            (root_digest-kept c.args.self.now c.self.inside.height (subtree_of c.self.inside.tree) (subtree_of c.graft.new.self) c.args.i c.args.leaf.now c.args.path.now
            c.settle-held.result (c.self.view_is ∙ c.settle-held.ensures.same) c.self.invariant.0 opened c.requires.within c.requires.levels
            (subst (Meets (subtree_of c.self.inside.tree) c.self.inside.height c.args.i c.args.leaf.now) c.as_slice.ensures (c.climbed-got.ensures.meets w.if-meets.true))
            c.settle-held.ensures.value)
        | else-meets w ↦ rw w.self-is tt
      ],
    )

pub returns-clause-grafted : goal.returns-clause-grafted
returns-clause-grafted c =
    Grafted-from c.args.self.now c.self.inside.height (subtree_of c.self.inside.tree) (subtree_of c.graft.new.self) c.args.i c.args.leaf.now c.args.path.now
    (c.self.view_is ∙ c.settle-held.ensures.same) c.self.invariant.0 c.in_ok-graft.ensures.sound
    (c.in_ok-graft.ensures.ok ∙ ap (grafted (subtree_of c.self.inside.tree) c.self.inside.height c.args.i c.args.leaf.now) c.as_slice-2.ensures)
    c.requires.within c.requires.levels

pub returns-clause-opens : goal.returns-clause-opens
returns-clause-opens c = ap (λ (q : ℕ × List ℕ). q.0) (returns-clause-grafted c).there
