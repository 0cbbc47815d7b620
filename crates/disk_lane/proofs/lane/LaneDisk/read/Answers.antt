use Rattle.std.proofs.Common.{◌≡◌, ◌+◌, ◌-◌, ◌≤◌, ◌<◌, ◌^◌, [], length, take, drop, ℕ, List, true, refl, sym, ◌∙◌, ap, subst, arith, Err}
use Rattle.disk_model.specs.Disk.{Now, Goes, IsWriting, IsSynced, History, Moment, written}
use Rattle.disk_lane.specs.Lanes.{place, count, page_rest, lane_history}
use Rattle.disk_lane.specs.Places.{count_grows}
use Rattle.disk_lane.proofs.Filling.{file_there}
use Rattle.disk_lane.proofs.Knowing.{synced_lane, len_lane, read_nowhere}
use Rattle.disk_lane.proofs.lane.LaneDisk.read.Goals.{then-len-at-via-then-len-at, then-len-at-via-else-len-at+then-len-at-2}
use Rattle.disk_lane.proofs.lane.LaneDisk.read.Goals as goal

pub read-requires : goal.read-requires
read-requires g c =
    let now = c.find_end.new.self in
    let h = g.D.Disk.history now.disk in
    let n = length c.args.out.now in
    let known = c.in-Ok.ensures.end in
    let moved = subst (λ (x : History). Now (lane_history c.args.self.now.lane x) (λ m. c.args.at + n ≤ length m.seen)) (sym c.find_end.ensures.same) c.requires in
    let there = subst (λ (k : ℕ). Now (lane_history k h) (λ m. c.args.at + n ≤ length m.seen)) (sym c.find_end.ensures.lane) moved in
    let past : count now.lane c.in-Ok.end < c.args.at + n = elim c.then-len-at.branch [
      | then-len-at-via-then-len-at w ↦ omega arith
      | then-len-at-via-else-len-at+then-len-at-2 w ↦ omega arith
    ] in
    read_nowhere now.lane c.args.at n c.in-Ok.end h (λ m. c.in-Ok.end + n ≤ length m.seen) known there past

pub read_pages-requires-clause-fits : goal.read_pages-requires-clause-fits
read_pages-requires-clause-fits g c = omega (arith, count_grows c.find_end.new.self.lane c.in-Ok.end (2 ^ 64 - 1) (omega arith))
