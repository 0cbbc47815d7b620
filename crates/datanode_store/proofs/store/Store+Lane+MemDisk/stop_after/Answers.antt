use Rattle.std.proofs.Common.{ℕ, Bool, sym, subst}
use Rattle.disk_model.specs.Disk.{History}
use Rattle.disk_model.specs.Told.{moments_of}
use Rattle.disk_lane.specs.Lanes.{lane_history}
use Rattle.datanode_store.proofs.Kept.{HoldsAt}
use Rattle.datanode_store.proofs.store.Store+Lane+MemDisk.stop_after.Goals as goal

pub invariant_of-self : goal.invariant_of-self
invariant_of-self c =
    let was = c.args.self.now in
    let log = c.stop_after.new.self in
    let told = c.stop_after.ensures in
    let moved = subst (λ (h : History). HoldsAt (lane_history was.log.disk.lane h) was.log.failed was.held) (sym told.moments) was.means in
    let there = subst (λ (l : ℕ). HoldsAt (lane_history l (moments_of log.disk.disk)) was.log.failed was.held) (sym told.lane) moved in
    record { means = subst (λ (f : Bool). HoldsAt (lane_history log.disk.lane (moments_of log.disk.disk)) f was.held) (sym told.failed) there; ranges = was.ranges }
