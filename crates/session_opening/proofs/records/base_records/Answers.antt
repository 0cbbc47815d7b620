use Rattle.std.proofs.Common.{◌≡◌, ◌∙◌, ◌++◌, ◌∷◌, ◌<◌, ◌≤◌, [], map, subst, sym, ap, ap₂, arith}
use Rattle.std.specs.List.{range_with_len}
use Rattle.std.proofs.lemmas.List.FromFn.{map-range_with_len_more}
use Rattle.std.proofs.lemmas.Nat.{pow_pos}
use Rattle.salus_types.specs.Volume.{regions}
use Rattle.client_tag.specs.Ranges.{IsHeader}
use Rattle.session_opening.specs.Basing.{base_by, AreBases}
use Rattle.session_opening.proofs.Based.{bases_spelled, header_spelled, record_is}
use Rattle.session_opening.proofs.records.base_records.Goals as goal

pub regions-preserved : goal.regions-preserved
regions-preserved c =
    let shape = c.args.geometry.now in
    let base = base_by shape c.args.key.now c.args.session c.args.seq c.args.roots.now in
    let inside : c.regions.region < regions shape = omega (arith, c.regions-test.true, c.regions-count.ensures.value) in
    let one : c.in_ok-base_record.field-0 ≡ base c.regions.region =
    record_is shape c.args.key.now c.args.session c.args.seq c.regions.region c.args.roots.now c.index-roots-region.result c.top-top.result c.in_ok-header.header c.in_ok-base_record.field-0 c.requires inside
    c.index-roots-region.is c.top-top.ensures c.in_ok-header.ensures c.in_ok-base_record.ensures in
    c.in_ok-push.ensures.ok ∙ ap₂ (λ l x. l ++ x ∷ []) c.regions.invariant one ∙ sym (map-range_with_len_more base 0 c.regions.region c.regions.region (omega arith))

pub base_record-requires : goal.base_record-requires
base_record-requires c =
    let shape = c.args.geometry.now in
    let few : regions shape ≤ 16 = omega (arith, c.regions-count.ensures.value, c.regions-count.ensures.bound) in
    subst IsHeader (sym c.in_ok-header.ensures) (header_spelled shape c.args.session c.args.seq c.regions.region c.index-roots-region.result c.top-top.result (omega (arith, pow_pos shape.regions_log)) few)

pub returns-clause-value : goal.returns-clause-value
returns-clause-value c =
    let shape = c.args.geometry.now in
    let end : c.regions.region ≡ regions shape = omega (arith, c.regions-test.false, c.regions.auto.region-end, c.regions-count.ensures.value) in
    c.regions.invariant ∙ ap (λ n. map (base_by shape c.args.key.now c.args.session c.args.seq c.args.roots.now) (range_with_len 0 n)) end

pub returns-clause-spelled : goal.returns-clause-spelled
returns-clause-spelled c =
    let shape = c.args.geometry.now in
    let few : regions shape ≤ 16 = omega (arith, c.regions-count.ensures.value, c.regions-count.ensures.bound) in
    subst (AreBases shape) (sym (returns-clause-value c)) (bases_spelled shape c.args.key.now c.args.session c.args.seq c.args.roots.now (omega (arith, pow_pos shape.regions_log)) few)
