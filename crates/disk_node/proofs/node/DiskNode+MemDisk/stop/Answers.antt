use Rattle.replica_rules.specs.Rules.{Receives}
use Rattle.run_rules.specs.Knowing.{after_input}
use Rattle.disk_node.proofs.node.DiskNode+MemDisk.stop.Goals as goal

pub returns-clause-stopped : goal.returns-clause-stopped
returns-clause-stopped c = λ shape name known fits.
    let by = c.in_ok-outcome.ensures.answered shape name known (c.stop_after.ensures.fits shape name known fits) in
    record { outs = by.outs; quiet = by.quiet; loaded = c.in_ok-crash.ensures.reloaded shape name (after_input shape name.region known (Receives c.args.from c.args.bytes.now) c.in_ok-outcome.outcome.failed) by.fits }

pub returns-clause-exact : goal.returns-clause-exact
returns-clause-exact c = record {
  begun = c.stop_after.new.self;
  same = c.stop_after.ensures.fits;
  stops = c.stop_after.ensures.stops;
  mid = c.receive.new.self;
  answered = c.in_ok-outcome.ensures.answered;
  crashed = c.in_ok-crash.ensures.exact;
}
