use Rattle.std.proofs.Common.{◌≡◌, ◌+◌, ◌-◌, ◌≤◌, ◌<◌, ◌^◌, [], length, take, drop, ℕ, List, true, refl, sym, ◌∙◌, ap, subst, arith, Err}
use Rattle.disk_model.specs.Disk.{Now, Goes, IsWriting, IsSynced, History, Moment, written}
use Rattle.disk_lane.specs.Lanes.{place, count, page_rest, lane_history}
use Rattle.disk_lane.specs.Places.{count_grows}
use Rattle.disk_lane.proofs.Filling.{file_there}
use Rattle.disk_lane.proofs.Knowing.{synced_lane, len_lane, read_nowhere}
use Rattle.disk_lane.proofs.lane.LaneDisk.write_at.Goals as goal

pub write_pages-requires-clause-there : goal.write_pages-requires-clause-there
write_pages-requires-clause-there g c =
    let now = c.find_end.new.self in
    let h = g.D.Disk.history now.disk in
    let moved = subst (λ (x : History). Now (lane_history c.args.self.now.lane x) (λ m. c.args.at ≤ length m.seen)) (sym c.find_end.ensures.same) c.requires in
    file_there now.lane c.args.at h (subst (λ (k : ℕ). Now (lane_history k h) (λ m. c.args.at ≤ length m.seen)) (sym c.find_end.ensures.lane) moved)
