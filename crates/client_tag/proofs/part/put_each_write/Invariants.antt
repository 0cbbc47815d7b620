use Rattle.std.proofs.Common.{◌≡◌, ◌<◌, ◌^◌, ◌++◌, take}
use Rattle.std.specs.List.{flat_map, AllByRecursion}
use Rattle.client_tag.specs.Spelling.{write_bytes}
use Rattle.client_tag.proofs.part.put_each_write.Given as goal

abbrev pub invariant-loop-write : goal.invariant-loop-write
invariant-loop-write l = record {
  bytes : l.out.items ≡ l.fn.out.items ++ flat_map write_bytes (take l.write-index l.writes);
  widths : AllByRecursion (λ w. w.place < 2 ^ 16) (take l.write-index l.writes);
}
