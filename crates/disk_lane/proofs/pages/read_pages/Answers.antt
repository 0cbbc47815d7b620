use Rattle.std.proofs.Common.{◌≡◌, ◌+◌, ◌-◌, ◌≤◌, ◌<◌, ◌^◌, [], length, take, drop, ℕ, List, refl, sym, ◌∙◌, ap, subst, arith, Err}
use Rattle.disk_model.specs.Disk.{Now, Goes, IsWriting, History, Moment, written}
use Rattle.disk_model.specs.declared.disk.DiskFault.TheVariants.{NoMemory}
use Rattle.disk_lane.specs.Lanes.{place, count, page_rest, lane_history}
use Rattle.disk_lane.specs.Wrote.{Wrote}
use Rattle.disk_lane.specs.Places.{place_fits, place_below, place_above, page_rest_short, page_rest_some}
use Rattle.disk_lane.proofs.Filling.{reach_nothing}
use Rattle.disk_lane.proofs.Rounds.{piece_long, next_there, wrote_next, goes_next, part_long, read_next, read_there, read_whole}
use Rattle.disk_lane.proofs.pages.read_pages.Goals as goal

pub overflow_add-here : goal.overflow_add-here
overflow_add-here g c = omega (arith, place_below c.args.lane (c.args.at + c.pages.done) (2 ^ 64 - 1) (omega (arith, c.requires.fits)), place_above c.args.lane (c.args.at + c.pages.done))

pub place_of-requires-clause-fits : goal.place_of-requires-clause-fits
place_of-requires-clause-fits g c = omega (arith, place_below c.args.lane (c.args.at + c.pages.done) (2 ^ 64 - 1) (omega (arith, c.requires.fits)))

pub read-requires : goal.read-requires
read-requires g c =
    let some : 0 < c.min-size.result = omega (arith, page_rest_some (c.args.at + c.pages.done)) in
    let there = subst (λ (n : ℕ). Now (g.D.Disk.history c.args.disk.now) (λ m. c.args.at + n ≤ count c.args.lane (length m.seen))) (sym c.pages.invariant.long) c.requires.there in
    subst (λ (h : History). Now h (λ m. c.place_of.result + length (take (c.pages.done + c.min-size.result - c.pages.done) (drop c.pages.done c.pages.out)) ≤ length m.seen)) (sym c.pages.invariant.same) (read_there c.args.lane c.args.at c.pages.done c.min-size.result c.place_of.result c.pages.out (g.D.Disk.history c.args.disk.now) c.place_of.ensures (omega arith) (omega arith) some there)

pub pages-smaller : goal.pages-smaller
pages-smaller g c = omega (arith, page_rest_some (c.args.at + c.pages.done), c.pages.invariant.long)

pub pages-preserved : goal.pages-preserved
pages-preserved g c =
    let some : 0 < c.min-size.result = omega (arith, page_rest_some (c.args.at + c.pages.done)) in
    let there = subst (λ (n : ℕ). Now (g.D.Disk.history c.args.disk.now) (λ m. c.args.at + n ≤ count c.args.lane (length m.seen))) (sym c.pages.invariant.long) c.requires.there in
    let long = part_long c.pages.done (c.pages.done + c.min-size.result - c.pages.done) c.pages.out c.read.new.out c.read.auto.out in
    let bytes = subst (λ (h : History). Now h (λ m. c.read.new.out ≡ take (length (take (c.pages.done + c.min-size.result - c.pages.done) (drop c.pages.done c.pages.out))) (drop c.place_of.result m.seen))) c.pages.invariant.same c.in-Ok.ensures.bytes in
    let here = subst (λ (n : ℕ). Now (g.D.Disk.history c.args.disk.now) (λ m. c.read.new.out ≡ take (length (take (c.pages.done + c.min-size.result - c.pages.done) (drop c.pages.done c.pages.out))) (drop n m.seen))) c.place_of.ensures bytes in
    record {
      inside = omega (arith, long);
      long = long ∙ c.pages.invariant.long;
      bytes = read_next c.args.lane c.args.at c.pages.done c.min-size.result c.pages.out c.read.new.out (g.D.Disk.history c.args.disk.now) (omega arith) (omega arith) some there c.pages.invariant.bytes here;
      same = c.in-Ok.ensures.same ∙ c.pages.invariant.same;
      kept = c.in-Ok.ensures.cause.kept ∙ c.pages.invariant.kept;
      sure = λ sure. (c.in-Ok.ensures.sure (c.pages.invariant.sure sure)).0;
    }

pub returns-clause-bytes : goal.returns-clause-bytes
returns-clause-bytes g c =
    subst (λ (n : ℕ). Now (lane_history c.args.lane (g.D.Disk.history c.args.disk.now)) (λ m. c.pages.out ≡ take n (drop c.args.at m.seen))) c.pages.invariant.long (read_whole c.args.lane c.args.at c.pages.done c.pages.out (g.D.Disk.history c.args.disk.now) (omega arith) c.pages.invariant.inside c.pages.invariant.bytes)
