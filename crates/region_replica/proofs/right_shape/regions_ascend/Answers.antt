use Rattle.std.proofs.Common.{◌≡◌, ◌<◌, ◌≤◌, ◌+◌, ◌∙◌, ◌&&◌, ℕ, nat_le, drop, get_or, sym, ap, arith}
use Rattle.std.proofs.lemmas.Bool.{and_left, lt-leb, le-leb}
use Rattle.holding_model.specs.Fitting.{ascends_from}
use Rattle.region_replica.proofs.Ascending.{rises-on, rises-end}
use Rattle.region_replica.proofs.right_shape.regions_ascend.Goals as goal

pub returns-then-region-low : goal.returns-then-region-low
returns-then-region-low c =
    let x : ℕ = get_or c.args.regions.now c.regions.region-index 0 in
    let on = rises-on c.regions.low c.args.regions.now c.regions.region-index c.regions-test.true in
    let less : x < c.regions.low = omega (arith, c.if-region-low.true, c.from-region.ensures) in
    let rest = ascends_from (x + 1) (drop (c.regions.region-index + 1) c.args.regions.now) in
    sym (sym c.regions.invariant ∙ (on ∙ and_left (nat_le c.regions.low x) rest (lt-leb c.regions.low x less)))

pub regions-preserved : goal.regions-preserved
regions-preserved c =
    let x : ℕ = get_or c.args.regions.now c.regions.region-index 0 in
    let on = rises-on c.regions.low c.args.regions.now c.regions.region-index c.regions-test.true in
    let least : c.regions.low ≤ x = omega (arith, c.if-region-low.false, c.from-region.ensures) in
    let rest = ascends_from (x + 1) (drop (c.regions.region-index + 1) c.args.regions.now) in
    let same : c.from-region.result ≡ x = omega (arith, c.from-region.ensures) in
    rw same (sym (on ∙ ap (λ t. t && rest) (le-leb c.regions.low x least)) ∙ c.regions.invariant)

pub returns : goal.returns
returns c = sym (sym c.regions.invariant ∙ rises-end c.regions.low c.args.regions.now c.regions.region-index c.regions-test.false)
