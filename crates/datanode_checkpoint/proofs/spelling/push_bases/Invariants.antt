use Rattle.std.proofs.Common.{◌≡◌, ◌++◌, Some, take}
use Rattle.salus_types.specs.declared.records.Held.{Held}
use Rattle.datanode_log.specs.Entries.{entries_of}
use Rattle.holding_model.specs.Holding.{held_of}
use Rattle.datanode_checkpoint.proofs.spelling.push_bases.Given as goal

abbrev pub invariant-bases : goal.invariant-bases
invariant-bases l = (held : Held) → held_of (entries_of l.fn.log.bytes.items) ≡ Some held → held_of (entries_of l.log.bytes.items) ≡ Some (record held { bases = held.bases ++ take l.base-index l.bases })
