use Rattle.std.proofs.Common.{◌≡◌, Some, take}
use Rattle.datanode_log.specs.Entries.{entries_of}
use Rattle.holding_model.specs.Holding.{held_of}
use Rattle.datanode_store.specs.Meaning.{CanBeKept}
use Rattle.datanode_store.proofs.reading.read_held.Given as goal

abbrev pub invariant-entries : goal.invariant-entries
invariant-entries g l = record {
  known : held_of (take l.i (entries_of l.loaded.bytes.items)) ≡ Some l.held;
  ranges : CanBeKept l.held;
}
