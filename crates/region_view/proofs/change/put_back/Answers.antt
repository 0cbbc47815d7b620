use Rattle.std.proofs.Common.{◌≡◌, ◌∙◌, ◌^◌, [], sym, arith}
use Rattle.std.proofs.lemmas.List.{nil_from_length}
use Rattle.region_view.proofs.Putting.{back-more, back-none, front_within}
use Rattle.region_view.proofs.change.put_back.Goals as goal

pub changes-preserved : goal.changes-preserved
changes-preserved c =
    let height = c.set.ensures.height in
    let more = back-more c.changes.tree.blocks c.changes.changes.items c.pop.new.self.items c.in-Some.change c.in-Some.ensures.items in
    record {
      height = height ∙ c.changes.invariant.height;
      within = rw height (front_within c.changes.changes.items c.pop.new.self.items c.in-Some.change (2 ^ c.changes.tree.height) c.in-Some.ensures.items c.changes.invariant.within);
      left = rw c.set.ensures.blocks (sym more ∙ c.changes.invariant.left);
    }

pub returns-clause-blocks : goal.returns-clause-blocks
returns-clause-blocks c =
    let none : c.changes.changes.items ≡ [] = nil_from_length c.changes.changes.items (omega (arith, c.changes.changes.ok, c.in_default.ensures.cases.0)) in
    back-none c.changes.tree.blocks c.changes.changes.items none ∙ c.changes.invariant.left
