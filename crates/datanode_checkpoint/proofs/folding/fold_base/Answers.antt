use Rattle.std.proofs.Common.{◌≡◌, ◌<◌, ◌≤◌, List, length, get_or, subst, arith}
use Rattle.salus_types.specs.declared.records.Record.{Record}
use Rattle.holding_model.specs.Changing.{is_folded}
use Rattle.datanode_checkpoint.proofs.Folded.{base_next, base_end}
use Rattle.datanode_checkpoint.proofs.folding.fold_base.Goals as goal

pub parts-preserved : goal.parts-preserved
parts-preserved c = λ shape.
    let items = c.as_slice-rec-items.ensures in
    let inside = subst (λ (l : List Record). c.parts.rec-index < length l) items c.parts-test.true in
    let is = subst (λ (l : List Record). c.rec-item.result ≡ get_or l c.parts.rec-index c.rec-item.result) items c.rec-item.is in
    base_next shape (λ rec. is_folded c.args.held.now c.args.seq rec) c.parts.folded c.take_folded.new.base _ c.args.held.now.parts c.parts.rec-index c.rec-item.result inside is (c.in-Ok-take_folded.ensures shape) (c.parts.invariant shape)

pub returns : goal.returns
returns c = λ shape.
    let end = subst (λ (l : List Record). length l ≤ c.parts.rec-index) c.as_slice-rec-items.ensures (omega (arith, c.parts-test.false)) in
    base_end shape (λ rec. is_folded c.args.held.now c.args.seq rec) c.parts.folded _ c.args.held.now.parts c.parts.rec-index end (c.parts.invariant shape)
