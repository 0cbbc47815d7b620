use Rattle.std.proofs.Common.{◌≡◌, ◌++◌, take}
use Rattle.std.specs.List.{flat_map}
use Rattle.client_tag.specs.Spelling.{record_bytes}
use Rattle.posting.proofs.lent.put_each_record.Given as goal

abbrev pub invariant-loop-rec : goal.invariant-loop-rec
invariant-loop-rec l = l.out.items ≡ l.fn.out.items ++ flat_map record_bytes (take l.rec-index l.records)
