use Rattle.std.proofs.Common.{◌≡◌, ◌∙◌, length, sym, arith}
use Rattle.std.proofs.lemmas.Bool.{eqb-true}
use Rattle.datanode_checkpoint.specs.Folds.{CanBeFolded, open_bases}
use Rattle.datanode_checkpoint.proofs.Sizes.{foldable_from, foldable_to}
use Rattle.datanode_checkpoint.proofs.foldable.can_fold.Goals as goal

pub returns-then-count_open-eq1 : goal.returns-then-count_open-eq1
returns-then-count_open-eq1 c =
    let held = c.args.held.now in
    let one : length (open_bases held) ≡ 1 = omega (arith, c.count_open.ensures, c.if-count_open-eq1.true) in
    (λ is. foldable_from held one (sym c.bases_fit.ensures ∙ is), λ foldable. c.bases_fit.ensures ∙ foldable_to held foldable)

pub returns-else-count_open-eq1 : goal.returns-else-count_open-eq1
returns-else-count_open-eq1 c = (
  λ is. absurd (c.if-count_open-eq1.false (eqb-true c.count_open.result 1 is)),
  λ foldable. absurd (c.if-count_open-eq1.false (c.count_open.ensures ∙ foldable.one)),
)
