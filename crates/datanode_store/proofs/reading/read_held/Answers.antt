use Rattle.std.proofs.Common.{Err, ap}
use Rattle.datanode_log.specs.Entries.{entries_of}
use Rattle.datanode_store.proofs.Kept.{read_next, first_bad, empty_known, empty_kept}
use Rattle.datanode_store.proofs.reading.read_held.Goals as goal

pub entries-init : goal.entries-init
entries-init g c = record {
  known = empty_known c.new.result c.new-2.result c.new.ensures c.new-2.ensures;
  ranges = empty_kept c.new.result c.new-2.result c.new.ensures c.new-2.ensures;
}

pub entries-preserved : goal.entries-preserved
entries-preserved g c =
    let so_far = c.entries.invariant in
    record {
      known = read_next (entries_of c.args.loaded.now.bytes.items) c.entries.i c.entries.held c.take_entry.new.held c.entry.result.now c.entry.ensures so_far.known c.in-Ok.ensures.taken;
      ranges = c.in-Ok.ensures.ranges so_far.ranges;
    }

pub returns-in-Err-Bad-clause-refused : goal.returns-in-Err-Bad-clause-refused
returns-in-Err-Bad-clause-refused g c =
    first_bad (entries_of c.args.loaded.now.bytes.items) c.entries.i c.entries.held c.entry.result.now c.entry.ensures c.entries.invariant.known (c.in-Err-Bad.ensures.bad (ap Err c.in-Err-Bad.field-0-is))
