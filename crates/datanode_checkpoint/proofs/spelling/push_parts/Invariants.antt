use Rattle.std.proofs.Common.{◌≡◌, ◌++◌, Some, take}
use Rattle.salus_types.specs.declared.records.Held.{Held}
use Rattle.datanode_log.specs.Entries.{entries_of}
use Rattle.holding_model.specs.Holding.{held_of}
use Rattle.datanode_checkpoint.proofs.spelling.push_parts.Given as goal

abbrev pub invariant-parts : goal.invariant-parts
invariant-parts l = (held : Held) → held_of (entries_of l.fn.log.bytes.items) ≡ Some held → held_of (entries_of l.log.bytes.items) ≡ Some (record held { parts = held.parts ++ take l.rec-index l.parts })
