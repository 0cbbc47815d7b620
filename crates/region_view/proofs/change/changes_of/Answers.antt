use Rattle.std.proofs.Common.{◌≡◌, ◌∙◌, ◌^◌, ◌≤◌, arith}
use Rattle.std.proofs.Math.Pow.{pow_mono}
use Rattle.region_view.proofs.Bringing.{RunIsInside, run-inside, writes-within, all-within, after-writes, after-run}
use Rattle.region_view.proofs.change.changes_of.Goals as goal
use Rattle.region_view.proofs.change.changes_of.Goals.{in-Some+in_ok-add_zeros, in_default}

pub add_zeros-requires-clause-low : goal.add_zeros-requires-clause-low
add_zeros-requires-clause-low c =
    let run : RunIsInside c.args.geometry.now c.in-Some.run' = run-inside c.args.geometry.now c.args.rec.now c.in-Some.run' c.requires c.in-Some.is in
    omega (arith, run.low, c.height-height.ensures.value, c.height-height.ensures.bound)

pub add_zeros-requires-clause-within : goal.add_zeros-requires-clause-within
add_zeros-requires-clause-within c =
    let run : RunIsInside c.args.geometry.now c.in-Some.run' = run-inside c.args.geometry.now c.args.rec.now c.in-Some.run' c.requires c.in-Some.is in
    let low : c.args.geometry.now.height ≤ 10 = omega (arith, c.height-height.ensures.value, c.height-height.ensures.bound) in
    let most : 2 ^ c.args.geometry.now.height ≤ 2 ^ 10 = pow_mono low in
    omega (arith, run.inside, most)

pub returns-clause-places : goal.returns-clause-places
returns-clause-places c =
    let copies : c.into_vec-changes.result.items ≡ c.args.rec.now.writes = c.into_vec-changes.ensures ∙ c.in_ok-try_clone.ensures in
    elim c.match-rec.branch [
      | in-Some+in_ok-add_zeros w ↦
          rw (w.changes-is, w.in_ok-add_zeros.ensures, copies, w.block_size.ensures.value) (all-within c.args.geometry.now c.args.rec.now w.in-Some.run' c.requires w.in-Some.is)
      | in_default w ↦ rw (w.changes-is, copies) (writes-within c.args.geometry.now c.args.rec.now c.requires)
    ]

pub returns-clause-blocks : goal.returns-clause-blocks
returns-clause-blocks c = λ blocks long.
    let copies : c.into_vec-changes.result.items ≡ c.args.rec.now.writes = c.into_vec-changes.ensures ∙ c.in_ok-try_clone.ensures in
    elim c.match-rec.branch [
      | in-Some+in_ok-add_zeros w ↦
          let run : RunIsInside c.args.geometry.now w.in-Some.run' = run-inside c.args.geometry.now c.args.rec.now w.in-Some.run' c.requires w.in-Some.is in
          rw (w.changes-is, w.in_ok-add_zeros.ensures, copies, w.block_size.ensures.value)
          (after-run c.args.geometry.now blocks c.args.rec.now w.in-Some.run' w.in-Some.is (omega (arith, run.inside, long)))
      | in_default w ↦ rw (w.changes-is, copies) (after-writes c.args.geometry.now blocks c.args.rec.now w.in_default.is)
    ]
