use Rattle.disk_model.specs.Disk.{Now, EachImage}
use Rattle.disk_lane.specs.Lanes.{lane_history}
use Rattle.datanode_store.specs.Meaning.{Means}
use Rattle.datanode_store.specs.Live.{MeansLive}
use Rattle.holding_model.specs.Holding.{OfBase, held_after}
use Rattle.datanode_checkpoint.proofs.Living.{on_ok, head_now, head_from, head_stays, live_through, live_each}
use Rattle.datanode_checkpoint.proofs.checkpoint.Checkpoint.add_base.Goals as goal

pub invariant_of-self : goal.invariant_of-self
invariant_of-self g c =
    let was = c.args.self.now.store in
    let now = c.add_base.new.self in
    let old = g.D.Disk.history was.log.disk.disk in
    let new = g.D.Disk.history now.log.disk.disk in
    let head = head_now old was.log.failed was.log.disk.lane c.requires.working c.args.self.now.head in
    record { head = head_from new now.log.failed now.log.disk.lane (λ works. head_stays was.log.disk.lane now.log.disk.lane old new c.add_base.ensures.stays head) }

pub returns-clause-durable : goal.returns-clause-durable
returns-clause-durable g c =
    let was = c.args.self.now.store in
    let now = c.add_base.new.self in
    let old = g.D.Disk.history was.log.disk.disk in
    let new = g.D.Disk.history now.log.disk.disk in
    let lane = now.log.disk.lane in
    let after = held_after was.held (OfBase c.args.base.now) in
    let head = head_stays was.log.disk.lane lane old new c.add_base.ensures.stays (head_now old was.log.failed was.log.disk.lane c.requires.working c.args.self.now.head) in
    on_ok c.add_base.result (Now (lane_history lane new) (λ now. EachImage now (Means after))) (Now new (λ now. EachImage now (MeansLive after))) (λ means. live_each lane new after head means) c.add_base.ensures.durable

pub returns-clause-any_moment : goal.returns-clause-any_moment
returns-clause-any_moment g c =
    let was = c.args.self.now.store in
    let now = c.add_base.new.self in
    let old = g.D.Disk.history was.log.disk.disk in
    let new = g.D.Disk.history now.log.disk.disk in
    let head = head_now old was.log.failed was.log.disk.lane c.requires.working c.args.self.now.head in
    live_through was.log.disk.lane now.log.disk.lane old new was.held (held_after was.held (OfBase c.args.base.now)) c.add_base.ensures.stays c.add_base.ensures.any_moment head
