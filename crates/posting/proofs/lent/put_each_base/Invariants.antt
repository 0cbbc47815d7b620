use Rattle.std.proofs.Common.{◌≡◌, ◌++◌, take}
use Rattle.std.specs.List.{flat_map}
use Rattle.client_tag.specs.Spelling.{base_bytes}
use Rattle.posting.proofs.lent.put_each_base.Given as goal

abbrev pub invariant-loop-base : goal.invariant-loop-base
invariant-loop-base l = l.out.items ≡ l.fn.out.items ++ flat_map base_bytes (take l.base-index l.bases)
