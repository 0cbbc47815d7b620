use Rattle.std.proofs.Common.{◌≡◌, ◌+◌, ◌-◌, ◌≤◌, ◌<◌, ◌^◌, [], length, take, drop, ℕ, List, true, refl, sym, ◌∙◌, ap, subst, arith, Err}
use Rattle.disk_model.specs.Disk.{Now, Goes, IsWriting, IsSynced, History, Moment, written}
use Rattle.disk_lane.specs.Lanes.{place, count, page_rest, lane_history}
use Rattle.disk_lane.specs.Places.{count_grows}
use Rattle.disk_lane.proofs.Filling.{file_there}
use Rattle.disk_lane.proofs.Knowing.{synced_lane, len_lane, read_nowhere}
use Rattle.disk_lane.proofs.lane.LaneDisk.len.Goals as goal

pub returns-in-Ok-clause-len : goal.returns-in-Ok-clause-len
returns-in-Ok-clause-len g c = len_lane c.args.self.now.lane c.count_of.result c.in-Ok.end (g.D.Disk.history c.args.self.now.disk) c.count_of.ensures c.in-Ok.ensures.len
