use Rattle.std.proofs.Common.{ℕ, List, ◌∙◌, ap}
use Rattle.merkle_pruned.specs.Node.{subtree_of}
use Rattle.merkle_pruned.specs.Path.{grafted}
use Rattle.merkle_pruned.proofs.Lawful.{Grafted-from}
use Rattle.merkle_pruned.proofs.pruned.Pruned.graft_verified.Goals as goal

pub returns-clause-grafted : goal.returns-clause-grafted
returns-clause-grafted c =
    Grafted-from c.args.self.now c.self.inside.height (subtree_of c.self.inside.tree) (subtree_of c.graft.new.self) c.args.i c.args.leaf.now c.args.path.now
    c.self.view_is c.self.invariant.0 c.in_ok-graft.ensures.sound
    (c.in_ok-graft.ensures.ok ∙ ap (grafted (subtree_of c.self.inside.tree) c.self.inside.height c.args.i c.args.leaf.now) c.as_slice.ensures)
    c.requires.within c.requires.levels

pub returns-clause-opens : goal.returns-clause-opens
returns-clause-opens c = ap (λ (q : ℕ × List ℕ). q.0) (returns-clause-grafted c).there
