use Rattle.std.proofs.Common.{refl, ◌∙◌, subst, arith, rules}
use Rattle.salus_types.specs.declared.records.Held.{Held}
use Rattle.disk_model.specs.Disk.{Now, EachImage}
use Rattle.datanode_store.specs.Live.{MeansLive}
use Rattle.datanode_store.proofs.Lanes.{live_now}
use Rattle.datanode_checkpoint.proofs.Living.{head_now}
use Rattle.node_storage.proofs.Steps.{storing_starts, next_storable, next_passed, storing_next, storing_ends, storing_stops}
use Rattle.node_storage.proofs.storing.store_all.Goals as goal

pub changes-init : goal.changes-init
changes-init g c =
    let checkpoint = c.args.checkpoint.now in
    let store = checkpoint.store in
    let h = g.D.Disk.history store.log.disk.disk in
    let head = head_now h store.log.failed store.log.disk.lane c.requires.working checkpoint.head in
    record {
      works = c.requires.working;
      storing = storing_starts c.args.changes.now store.held h c.requires.storable (live_now store.log.disk.lane h store.log.failed store.held c.requires.working store.means head);
      none = λ start. refl;
      faults = refl;
      sure = λ is. (is, refl);
    }

pub store_one-requires-clause-storable : goal.store_one-requires-clause-storable
store_one-requires-clause-storable g c =
    let can = next_storable c.args.changes.now c.changes.change-index c.change-item.result c.changes.checkpoint.store.held c.changes-test.true c.change-item.is c.changes.invariant.storing.left in
    can.each.0

pub changes-preserved : goal.changes-preserved
changes-preserved g c =
    let was = c.changes.checkpoint.store in
    let now = c.store_one.new.checkpoint.store in
    let first = c.args.checkpoint.now.store in
    let so_far = c.changes.invariant in
    record {
      works = search rules;
      storing = storing_next c.args.changes.now c.changes.change-index c.change-item.result first.held was.held now.held (g.D.Disk.history first.log.disk.disk) (g.D.Disk.history was.log.disk.disk) (g.D.Disk.history now.log.disk.disk) c.changes-test.true c.change-item.is so_far.storing c.in-Ok.ensures.stored c.store_one.ensures.any_moment;
      none = λ start. absurd (omega (arith, start));
      faults = c.in-Ok.ensures.cause.kept refl ∙ so_far.faults;
      sure = λ is. c.in-Ok.ensures.sure (so_far.sure is).0;
    }

pub returns-in-Err-clause-some : goal.returns-in-Err-clause-some
returns-in-Err-clause-some g c = λ shape.
    let first = c.args.checkpoint.now.store in
    let was = c.changes.checkpoint.store in
    storing_stops c.args.changes.now c.changes.change-index first.held was.held c.store_one.new.checkpoint.store.held (g.D.Disk.history first.log.disk.disk) (g.D.Disk.history was.log.disk.disk) c.changes-test.true c.changes.invariant.storing c.in-Err.ensures.kept shape

pub returns-in-Err-clause-any_moment : goal.returns-in-Err-clause-any_moment
returns-in-Err-clause-any_moment g c = λ shape.
    let first = c.args.checkpoint.now.store in
    let was = c.changes.checkpoint.store in
    let now = c.store_one.new.checkpoint.store in
    next_passed c.args.changes.now c.changes.change-index c.change-item.result first.held was.held (g.D.Disk.history first.log.disk.disk) (g.D.Disk.history was.log.disk.disk) (g.D.Disk.history now.log.disk.disk) c.changes-test.true c.change-item.is c.changes.invariant.storing c.store_one.ensures.any_moment shape

pub returns-clause-durable : goal.returns-clause-durable
returns-clause-durable g c = λ shape.
    let checkpoint = c.changes.checkpoint in
    let store = checkpoint.store in
    let first = c.args.checkpoint.now.store in
    let h = g.D.Disk.history store.log.disk.disk in
    let so_far = c.changes.invariant in
    let head = head_now h store.log.failed store.log.disk.lane so_far.works checkpoint.head in
    let is = storing_ends c.args.changes.now c.changes.change-index first.held store.held (g.D.Disk.history first.log.disk.disk) h (omega (arith, c.changes-test.false)) so_far.storing shape in
    subst (λ (held : Held). Now h (λ now. EachImage now (MeansLive held))) is (live_now store.log.disk.lane h store.log.failed store.held so_far.works store.means head)
