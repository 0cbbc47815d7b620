use Rattle.std.proofs.Common.{◌≡◌, ◌∙◌, ◌+◌, List, take, ap, subst}
use Rattle.salus_types.specs.declared.records.Base.{Base}
use Rattle.salus_types.specs.declared.records.Record.{Record}
use Rattle.restart_pool.specs.Kept.{Kept, with_base, with_part}
use Rattle.volume_restart.proofs.Holding.{with_bases, with_parts, no-bases, no-parts, base-more, part-more, with-all}
use Rattle.volume_restart.proofs.restart.add_held.Goals as goal

pub bases-init : goal.bases-init
bases-init c = no-bases c.args.key.now c.args.pool.now

pub bases-preserved : goal.bases-preserved
bases-preserved c =
    let i = c.bases.base-index in
    let x = c.base-item.result in
    let more = base-more c.args.key.now c.args.pool.now c.as_slice-base-items.result.now i x c.bases-test.true c.base-item.is in
    let here = subst (λ (bs : List Base). with_base c.args.key.now (with_bases c.args.key.now c.args.pool.now (take i bs)) x ≡ with_bases c.args.key.now c.args.pool.now (take (i + 1) bs))
    c.as_slice-base-items.ensures more in
    c.in_ok-add_base.ensures.ok ∙ (ap (λ (k : Kept). with_base c.args.key.now k x) c.bases.invariant ∙ here)

pub parts-init : goal.parts-init
parts-init c = no-parts c.args.key.now c.bases.pool

pub parts-preserved : goal.parts-preserved
parts-preserved c =
    let i = c.parts.rec-index in
    let x = c.rec-item.result in
    let more = part-more c.args.key.now c.bases.pool c.as_slice-rec-items.result.now i x c.parts-test.true c.rec-item.is in
    let here = subst (λ (ps : List Record). with_part c.args.key.now (with_parts c.args.key.now c.bases.pool (take i ps)) x ≡ with_parts c.args.key.now c.bases.pool (take (i + 1) ps))
    c.as_slice-rec-items.ensures more in
    c.in_ok-add_record.ensures.ok ∙ (ap (λ (k : Kept). with_part c.args.key.now k x) c.parts.invariant ∙ here)

pub returns-clause-held : goal.returns-clause-held
returns-clause-held c =
    let held = c.args.held.now in
    ap (λ (k : Kept). k.held) (c.parts.invariant ∙ ap (λ (k : Kept). with_parts c.args.key.now k (take c.parts.rec-index held.parts)) c.bases.invariant)
    ∙ with-all c.args.key.now c.args.pool.now held c.bases.base-index c.parts.rec-index (rw (← c.as_slice-base-items.ensures) c.bases-test.false) (rw (← c.as_slice-rec-items.ensures) c.parts-test.false)
