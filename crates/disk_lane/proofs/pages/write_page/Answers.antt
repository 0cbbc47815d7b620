use Rattle.std.proofs.Common.{rules, ◌≡◌, ◌+◌, ◌-◌, ◌≤◌, ◌<◌, ◌^◌, [], length, take, drop, ℕ, List, refl, sym, ◌∙◌, ap, subst, arith, Err}
use Rattle.disk_model.specs.Disk.{Now, Goes, IsWriting, History, Moment, written}
use Rattle.disk_model.specs.declared.disk.DiskFault.TheVariants.{NoMemory}
use Rattle.disk_lane.specs.Lanes.{place, count, page_rest, lane_history}
use Rattle.disk_lane.specs.Wrote.{Wrote}
use Rattle.disk_lane.specs.Places.{place_fits, page_rest_short}
use Rattle.disk_lane.proofs.Keeping.{page_beside, beside_more}
use Rattle.disk_lane.proofs.Filling.{now_after, end_written, lane_there, reach_nothing, fill_moments, fill_wrote, page_moments, page_wrote, wrote_after, goes_after, goes_only}
use Rattle.disk_lane.proofs.pages.write_page.Goals as goal

pub place_of-begin-requires-clause-fits : goal.place_of-begin-requires-clause-fits
place_of-begin-requires-clause-fits g c = omega (arith, place_fits c.args.lane c.args.at c.requires.lane c.requires.low)

pub overflow_add-begin : goal.overflow_add-begin
overflow_add-begin g c = omega (arith, place_fits c.args.lane c.args.at c.requires.lane c.requires.low, page_rest_short c.args.at)

pub returns-in-Ok-write_at-clause-wrote : goal.returns-in-Ok-write_at-clause-wrote
returns-in-Ok-write_at-clause-wrote g c =
    let lane = c.args.lane in
    let at = c.args.at in
    let bytes = c.args.bytes.now in
    let mid = g.D.Disk.history c.reach.new.disk in
    let new = g.D.Disk.history c.write_at.new.self in
    let went = subst (λ (k : ℕ). Goes (IsWriting k (length bytes)) mid new) c.place_of-begin.ensures c.in-Ok-write_at.ensures.moments in
    let done = subst (λ (k : ℕ). Now mid (λ was. Now new (λ now. now.seen ≡ written k bytes was.seen))) c.place_of-begin.ensures c.in-Ok-write_at.ensures.written in
    wrote_after at bytes (lane_history lane (g.D.Disk.history c.args.disk.now)) (lane_history lane mid) (lane_history lane new) c.in-Ok.ensures.wrote (page_wrote lane at bytes mid new c.requires.page c.in-Ok.ensures.reached went done)

pub returns-in-Ok-write_at-clause-moments : goal.returns-in-Ok-write_at-clause-moments
returns-in-Ok-write_at-clause-moments g c = (returns-in-Ok-write_at-clause-wrote g c).went

pub returns-in-Err-write_at-clause-moments : goal.returns-in-Err-write_at-clause-moments
returns-in-Err-write_at-clause-moments g c =
    let lane = c.args.lane in
    let at = c.args.at in
    let n = length c.args.bytes.now in
    let mid = g.D.Disk.history c.reach.new.disk in
    let new = g.D.Disk.history c.write_at.new.self in
    let went = subst (λ (k : ℕ). Goes (IsWriting k n) mid new) c.place_of-begin.ensures c.write_at.ensures.moments in
    goes_after at n (lane_history lane (g.D.Disk.history c.args.disk.now)) (lane_history lane mid) (lane_history lane new) c.reach.ensures.moments (page_moments lane at n mid new c.requires.page went)

pub returns-in-Err-write_at-clause-memory : goal.returns-in-Err-write_at-clause-memory
returns-in-Err-write_at-clause-memory g c = λ none.
    let lane = c.args.lane in
    let at = c.args.at in
    let n = length c.args.bytes.now - 1 in
    let mid = g.D.Disk.history c.reach.new.disk in
    let new = g.D.Disk.history c.write_at.new.self in
    let went = subst (λ (k : ℕ). Goes (IsWriting k n) mid new) c.place_of-begin.ensures (c.in-Err-write_at.ensures.memory (let e : c.in-Err-write_at.fault ≡ NoMemory = cc in ap Err e)) in
    goes_after at n (lane_history lane (g.D.Disk.history c.args.disk.now)) (lane_history lane mid) (lane_history lane new) c.reach.ensures.moments (page_moments lane at n mid new (omega (arith, c.requires.page)) went)

pub returns-in-Ok-write_at-clause-beside : goal.returns-in-Ok-write_at-clause-beside
returns-in-Ok-write_at-clause-beside g c =
    let lane = c.args.lane in
    let n = length c.args.bytes.now in
    let mid = g.D.Disk.history c.reach.new.disk in
    let new = g.D.Disk.history c.write_at.new.self in
    let went = subst (λ (k : ℕ). Goes (IsWriting k n) mid new) c.place_of-begin.ensures c.write_at.ensures.moments in
    beside_more lane (g.D.Disk.history c.args.disk.now) mid new c.reach.ensures.beside (page_beside lane c.args.at n mid new c.requires.page went)

pub returns-in-Err-write_at-clause-beside : goal.returns-in-Err-write_at-clause-beside
returns-in-Err-write_at-clause-beside g c =
    let lane = c.args.lane in
    let n = length c.args.bytes.now in
    let mid = g.D.Disk.history c.reach.new.disk in
    let new = g.D.Disk.history c.write_at.new.self in
    let went = subst (λ (k : ℕ). Goes (IsWriting k n) mid new) c.place_of-begin.ensures c.write_at.ensures.moments in
    beside_more lane (g.D.Disk.history c.args.disk.now) mid new c.reach.ensures.beside (page_beside lane c.args.at n mid new c.requires.page went)
