use Rattle.std.proofs.Common.{◌≡◌, ◌<◌, ◌≤◌, List, length, filter, get_or, subst, arith}
use Rattle.salus_types.specs.declared.records.Base.{Base}
use Rattle.holding_model.specs.Changing.{is_folded, is_open_base, base_after_all}
use Rattle.datanode_checkpoint.proofs.Lists.{mapped_next, mapped_end}
use Rattle.datanode_checkpoint.proofs.folding.fold_open.Goals as goal

pub bases-preserved : goal.bases-preserved
bases-preserved c = λ shape.
    let items = c.as_slice-base-items.ensures in
    let inside = subst (λ (l : List Base). c.bases.base-index < length l) items c.bases-test.true in
    let is = subst (λ (l : List Base). c.base-item.result ≡ get_or l c.bases.base-index c.base-item.result) items c.base-item.is in
    let held = c.args.held.now in
    mapped_next (λ base. base_after_all shape base (filter (λ rec. is_folded held c.args.seq rec) held.parts)) (λ base. is_open_base held base) held.bases c.bases.base-index c.base-item.result c.bases.bases c.add_open.new.bases inside is (c.bases.invariant shape) (c.in-Ok.ensures shape)

pub returns : goal.returns
returns c = λ shape.
    let held = c.args.held.now in
    let end = subst (λ (l : List Base). length l ≤ c.bases.base-index) c.as_slice-base-items.ensures (omega (arith, c.bases-test.false)) in
    mapped_end (λ base. base_after_all shape base (filter (λ rec. is_folded held c.args.seq rec) held.parts)) (λ base. is_open_base held base) held.bases c.bases.base-index c.bases.bases end (c.bases.invariant shape)
