use Rattle.std.proofs.Common.{◌≡◌, ◌<◌, ◌≤◌, ◌+◌, ◌∙◌, ◌&&◌, nat_le, true, map, drop, sym, ap, arith}
use Rattle.std.proofs.lemmas.Bool.{and_left, lt-leb, le-leb}
use Rattle.salus_types.specs.declared.records.PlaceWrite.{PlaceWrite}
use Rattle.holding_model.specs.Fitting.{ascends_from}
use Rattle.replica_tests.proofs.Ascending.{ascends-on, ascends-end}
use Rattle.replica_tests.proofs.fitting.places_ascend.Goals as goal

pub returns-then-place-low : goal.returns-then-place-low
returns-then-place-low c =
    let w = c.write-item.result in
    let on = ascends-on c.writes.low c.args.writes.now c.writes.write-index w c.writes-test.true c.write-item.is in
    let less : w.place < c.writes.low = omega (arith, c.if-place-low.true, c.from-place.ensures) in
    let rest = ascends_from (w.place + 1) (map (λ (v : PlaceWrite). v.place) (drop (c.writes.write-index + 1) c.args.writes.now)) in
    sym (sym c.writes.invariant ∙ (on ∙ and_left (nat_le c.writes.low w.place) rest (lt-leb c.writes.low w.place less)))

pub writes-preserved : goal.writes-preserved
writes-preserved c =
    let w = c.write-item.result in
    let on = ascends-on c.writes.low c.args.writes.now c.writes.write-index w c.writes-test.true c.write-item.is in
    let least : c.writes.low ≤ w.place = omega (arith, c.if-place-low.false, c.from-place.ensures) in
    let rest = ascends_from (w.place + 1) (map (λ (v : PlaceWrite). v.place) (drop (c.writes.write-index + 1) c.args.writes.now)) in
    let same : c.from-place.result ≡ w.place = omega (arith, c.from-place.ensures) in
    rw same (sym (on ∙ ap (λ t. t && rest) (le-leb c.writes.low w.place least)) ∙ c.writes.invariant)

pub returns : goal.returns
returns c = sym (sym c.writes.invariant ∙ ascends-end c.writes.low c.args.writes.now c.writes.write-index c.writes-test.false)
