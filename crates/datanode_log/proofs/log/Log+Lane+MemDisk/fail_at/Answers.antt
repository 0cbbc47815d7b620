use Rattle.std.proofs.Common.{ℕ, sym, subst}
use Rattle.disk_model.specs.Disk.{History}
use Rattle.disk_model.specs.Told.{moments_of}
use Rattle.disk_lane.specs.Lanes.{lane_history}
use Rattle.datanode_log.specs.Known.{SoundAt}
use Rattle.datanode_log.proofs.log.Log+Lane+MemDisk.fail_at.Goals as goal

pub invariant_of-self : goal.invariant_of-self
invariant_of-self c =
    let was = c.args.self.now in
    let lane = c.fail_at.new.self in
    let moved = subst (λ (h : History). SoundAt (lane_history was.disk.lane h) was.gate was.spans.items was.failed) (sym c.fail_at.ensures.moments) was.sound in
    record { sound = subst (λ (l : ℕ). SoundAt (lane_history l (moments_of lane.disk)) was.gate was.spans.items was.failed) (sym c.fail_at.ensures.lane) moved }
