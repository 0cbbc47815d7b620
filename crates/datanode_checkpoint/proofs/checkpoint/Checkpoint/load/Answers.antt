use Rattle.std.proofs.Common.{ℕ, sym, subst}
use Rattle.disk_model.specs.Disk.{Now, EachImage, Goes, IsSynced, Through}
use Rattle.disk_lane.specs.Lanes.{lane_history}
use Rattle.disk_lane.specs.Heads.{IsHead}
use Rattle.disk_model.proofs.Passing.{sync_through}
use Rattle.datanode_store.specs.Live.{MeansOneLive}
use Rattle.datanode_store.specs.Meaning.{Means}
use Rattle.datanode_store.specs.Causes.{RefusesFile}
use Rattle.datanode_store.proofs.Lanes.{live_now}
use Rattle.datanode_checkpoint.proofs.Living.{head_from, head_stays, loaded_means, loaded_refused, written_live, load_through}
use Rattle.datanode_checkpoint.proofs.checkpoint.Checkpoint.load.Goals as goal

pub invariant_of-result : goal.invariant_of-result
invariant_of-result g c =
    let store = c.in-Ok-load.store in
    let lane = c.new.result in
    let live = subst (λ (l : ℕ). Now (g.D.Disk.history lane.disk) (λ m. EachImage m (IsHead l))) (sym c.new.ensures.lane) (subst (λ (d : g.row.D.Denot). Now (g.D.Disk.history d) (λ m. EachImage m (IsHead c.in-Ok.lane))) (sym c.new.ensures.disk) c.in-Ok.ensures.live) in
    record { head = head_from (g.D.Disk.history store.log.disk.disk) store.log.failed store.log.disk.lane (λ works. head_stays lane.lane store.log.disk.lane (g.D.Disk.history lane.disk) (g.D.Disk.history store.log.disk.disk) c.in-Ok-load.ensures.stays live) }

pub returns-in-Ok-load-clause-durable : goal.returns-in-Ok-load-clause-durable
returns-in-Ok-load-clause-durable g c =
    let store = c.in-Ok-load.store in
    let lane = c.new.result in
    let live = subst (λ (l : ℕ). Now (g.D.Disk.history lane.disk) (λ m. EachImage m (IsHead l))) (sym c.new.ensures.lane) (subst (λ (d : g.row.D.Denot). Now (g.D.Disk.history d) (λ m. EachImage m (IsHead c.in-Ok.lane))) (sym c.new.ensures.disk) c.in-Ok.ensures.live) in
    let here = head_stays lane.lane store.log.disk.lane (g.D.Disk.history lane.disk) (g.D.Disk.history store.log.disk.disk) c.in-Ok-load.ensures.stays live in
    live_now store.log.disk.lane (g.D.Disk.history store.log.disk.disk) store.log.failed store.held c.in-Ok-load.ensures.working store.means here

pub returns-in-Ok-load-clause-held : goal.returns-in-Ok-load-clause-held
returns-in-Ok-load-clause-held g c =
    let store = c.in-Ok-load.store in
    let read = subst (λ (d : g.row.D.Denot). Now (lane_history c.new.result.lane (g.D.Disk.history d)) (λ m. Means store.held m.seen)) c.new.ensures.disk c.in-Ok-load.ensures.held in
    let means = subst (λ (l : ℕ). Now (lane_history l (g.D.Disk.history c.find_live.new.disk)) (λ m. Means store.held m.seen)) c.new.ensures.lane read in
    loaded_means c.in-Ok.lane (g.D.Disk.history c.args.disk) (g.D.Disk.history c.find_live.new.disk) store.held c.find_live.ensures.moments c.in-Ok.ensures.synced c.in-Ok.ensures.live (g.met.D.Disk.reads_image c.find_live.new.disk) means

pub returns-in-Err-load-clause-refused : goal.returns-in-Err-load-clause-refused
returns-in-Err-load-clause-refused g c =
    let error = c.in-Err-load.field-0.error in
    let read = subst (λ (d : g.row.D.Denot). Now (lane_history c.new.result.lane (g.D.Disk.history d)) (λ m. RefusesFile error m.seen)) c.new.ensures.disk c.in-Err-load.ensures.refused in
    let refuses = subst (λ (l : ℕ). Now (lane_history l (g.D.Disk.history c.find_live.new.disk)) (λ m. RefusesFile error m.seen)) c.new.ensures.lane read in
    loaded_refused c.in-Ok.lane (g.D.Disk.history c.args.disk) (g.D.Disk.history c.find_live.new.disk) error c.find_live.ensures.moments c.in-Ok.ensures.synced c.in-Ok.ensures.live (g.met.D.Disk.reads_image c.find_live.new.disk) refuses

pub returns-in-Err-clause-written : goal.returns-in-Err-clause-written
returns-in-Err-clause-written g c = written_live (g.D.Disk.history c.args.disk) c.in-Err.error c.in-Err.ensures.refused

pub returns-in-Err-load-clause-written : goal.returns-in-Err-load-clause-written
returns-in-Err-load-clause-written g c =
    let error = c.in-Err-load.field-0.error in
    let read = subst (λ (d : g.row.D.Denot). Now (lane_history c.new.result.lane (g.D.Disk.history d)) (λ m. RefusesFile error m.seen)) c.new.ensures.disk c.in-Err-load.ensures.refused in
    let refuses = subst (λ (l : ℕ). Now (lane_history l (g.D.Disk.history c.find_live.new.disk)) (λ m. RefusesFile error m.seen)) c.new.ensures.lane read in
    written_live (g.D.Disk.history c.args.disk) error (loaded_refused c.in-Ok.lane (g.D.Disk.history c.args.disk) (g.D.Disk.history c.find_live.new.disk) error c.find_live.ensures.moments c.in-Ok.ensures.synced c.in-Ok.ensures.live (g.met.D.Disk.reads_image c.find_live.new.disk) refuses)

pub returns-in-Err-clause-any_moment : goal.returns-in-Err-clause-any_moment
returns-in-Err-clause-any_moment g c = λ contents means.
    sync_through (g.D.Disk.history c.args.disk) (g.D.Disk.history c.find_live.new.disk) (MeansOneLive contents) c.find_live.ensures.moments (g.met.D.Disk.reads_image c.args.disk) means

pub returns-in-Ok-load-clause-any_moment : goal.returns-in-Ok-load-clause-any_moment
returns-in-Ok-load-clause-any_moment g c = λ contents means.
    let h = λ (d : g.row.D.Denot). g.D.Disk.history d in
    let lane = c.new.result in
    let store = c.in-Ok-load.store in
    let live = subst (λ (l : ℕ). Now (h lane.disk) (λ m. EachImage m (IsHead l))) (sym c.new.ensures.lane) (subst (λ (d : g.row.D.Denot). Now (h d) (λ m. EachImage m (IsHead c.in-Ok.lane))) (sym c.new.ensures.disk) c.in-Ok.ensures.live) in
    let went = subst (λ (d : g.row.D.Denot). Goes IsSynced (h c.args.disk) (h d)) (sym c.new.ensures.disk) c.find_live.ensures.moments in
    load_through lane.lane store.log.disk.lane (h c.args.disk) (h lane.disk) (h store.log.disk.disk) contents went (g.met.D.Disk.reads_image c.args.disk) (g.met.D.Disk.reads_image lane.disk) live c.in-Ok-load.ensures.stays c.in-Ok-load.ensures.moments means

pub returns-in-Err-load-clause-any_moment : goal.returns-in-Err-load-clause-any_moment
returns-in-Err-load-clause-any_moment g c = λ contents means.
    let h = λ (d : g.row.D.Denot). g.D.Disk.history d in
    let lane = c.new.result in
    let left = c.in-Err-load.field-0.disk in
    let live = subst (λ (l : ℕ). Now (h lane.disk) (λ m. EachImage m (IsHead l))) (sym c.new.ensures.lane) (subst (λ (d : g.row.D.Denot). Now (h d) (λ m. EachImage m (IsHead c.in-Ok.lane))) (sym c.new.ensures.disk) c.in-Ok.ensures.live) in
    let went = subst (λ (d : g.row.D.Denot). Goes IsSynced (h c.args.disk) (h d)) (sym c.new.ensures.disk) c.find_live.ensures.moments in
    let passed = load_through lane.lane left.lane (h c.args.disk) (h lane.disk) (h left.disk) contents went (g.met.D.Disk.reads_image c.args.disk) (g.met.D.Disk.reads_image lane.disk) live c.in-Err-load.ensures.stays c.in-Err-load.ensures.moments means in
    subst (λ (d : g.row.D.Denot). Through (h c.args.disk) (h d) (MeansOneLive contents)) (sym c.into_disk.ensures) passed
