use Rattle.std.proofs.Common.{◌≡◌, ◌+◌, ◌-◌, ◌≤◌, ◌<◌, ◌^◌, [], length, take, drop, ℕ, List, true, refl, sym, ◌∙◌, ap, subst, arith, Err}
use Rattle.disk_model.specs.Disk.{Now, Goes, IsWriting, IsSynced, History, Moment, written}
use Rattle.disk_lane.specs.Lanes.{place, count, page_rest, lane_history}
use Rattle.disk_lane.specs.Places.{count_grows}
use Rattle.disk_lane.proofs.Keeping.{sync_beside}
use Rattle.disk_lane.proofs.Filling.{file_there}
use Rattle.disk_lane.proofs.Knowing.{synced_lane, len_lane, read_nowhere}
use Rattle.disk_lane.proofs.lane.LaneDisk.sync.Goals as goal

pub returns-clause-moments : goal.returns-clause-moments
returns-clause-moments g c = synced_lane c.args.self.now.lane (g.D.Disk.history c.args.self.now.disk) (g.D.Disk.history c.sync.new.self) c.sync.ensures.moments

pub returns-clause-stays : goal.returns-clause-stays
returns-clause-stays g c =
    let was = c.args.self.now in
    record { lane_is = refl; went = sync_beside was.lane (g.D.Disk.history was.disk) (g.D.Disk.history c.sync.new.self) (g.met.D.Disk.reads_image was.disk) c.sync.ensures.moments }
