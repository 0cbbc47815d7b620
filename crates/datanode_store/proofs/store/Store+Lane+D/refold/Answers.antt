use Rattle.datanode_log.specs.Entries.{entries_of}
use Rattle.datanode_store.proofs.Lanes.{folded_through, folded_durable, folded_holds, unfolded_holds}
use Rattle.datanode_store.proofs.store.Store+Lane+D.refold.Goals as goal

pub invariant_of-self : goal.invariant_of-self
invariant_of-self g c =
    let log = c.rewrite.new.self in
    record {
      means = folded_holds log.disk.lane (g.D.Disk.history log.disk.disk) log.failed c.args.held (entries_of c.args.log.bytes.items) c.requires.spelled c.in-Ok.ensures.durable c.rewrite.ensures.head;
      ranges = c.requires.ranges;
    }

pub invariant_of-self-in-Err-1 : goal.invariant_of-self-in-Err-1
invariant_of-self-in-Err-1 g c =
    let was = c.args.self.now in
    let log = c.rewrite.new.self in
    record {
      means = unfolded_holds was.log.disk.lane log.disk.lane (g.D.Disk.history was.log.disk.disk) (g.D.Disk.history log.disk.disk) was.log.failed log.failed was.held log.gate log.spans.items c.requires.working was.means (g.met.D.Disk.reads_image was.log.disk.disk) c.rewrite.ensures.any_moment.untold log.sound c.in-Err.ensures.unless_failed;
      ranges = was.ranges;
    }

pub returns-in-Ok-clause-durable : goal.returns-in-Ok-clause-durable
returns-in-Ok-clause-durable g c =
    folded_durable (g.D.Disk.history c.rewrite.new.self.disk.disk) c.args.held (entries_of c.args.log.bytes.items) c.requires.spelled c.in-Ok.ensures.durable

pub returns-in-Ok-clause-any_moment : goal.returns-in-Ok-clause-any_moment
returns-in-Ok-clause-any_moment g c =
    let was = c.args.self.now in
    folded_through was.log.disk.lane (g.D.Disk.history was.log.disk.disk) (g.D.Disk.history c.rewrite.new.self.disk.disk) was.log.failed was.held c.args.held (entries_of c.args.log.bytes.items) c.requires.working was.means (g.met.D.Disk.reads_image was.log.disk.disk) c.requires.spelled c.rewrite.ensures.any_moment

pub returns-in-Err-clause-any_moment : goal.returns-in-Err-clause-any_moment
returns-in-Err-clause-any_moment g c =
    let was = c.args.self.now in
    folded_through was.log.disk.lane (g.D.Disk.history was.log.disk.disk) (g.D.Disk.history c.rewrite.new.self.disk.disk) was.log.failed was.held c.args.held (entries_of c.args.log.bytes.items) c.requires.working was.means (g.met.D.Disk.reads_image was.log.disk.disk) c.requires.spelled c.rewrite.ensures.any_moment
