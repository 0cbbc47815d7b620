use Rattle.std.proofs.Common.{ℕ, sym, subst}
use Rattle.disk_model.specs.Disk.{History}
use Rattle.disk_model.specs.Told.{moments_of}
use Rattle.disk_lane.specs.Lanes.{lane_history}
use Rattle.datanode_log.specs.Known.{SoundAt}
use Rattle.datanode_log.proofs.log.Log+Lane+MemDisk.stop_after.Goals as goal

pub invariant_of-self : goal.invariant_of-self
invariant_of-self c =
    let was = c.args.self.now in
    let lane = c.stop_after.new.self in
    let moved = subst (λ (h : History). SoundAt (lane_history was.disk.lane h) was.gate was.spans.items was.failed) (sym c.stop_after.ensures.moments) was.sound in
    record { sound = subst (λ (l : ℕ). SoundAt (lane_history l (moments_of lane.disk)) was.gate was.spans.items was.failed) (sym c.stop_after.ensures.lane) moved }
