use Rattle.std.proofs.Common.{◌≡◌, ◌++◌, take, map}
use Rattle.holding_model.specs.Changing.{AddsPart}
use Rattle.node_storage.specs.Storing.{changes_of}
use Rattle.replica_node.proofs.storing.name_parts.Given as goal

abbrev pub invariant-parts : goal.invariant-parts
invariant-parts l = changes_of l.changes.items ≡ changes_of l.fn.changes.items ++ map (λ rec. AddsPart rec) (take l.rec-index l.parts)
