use Rattle.std.proofs.Common.{◌≡◌, ◌++◌, take}
use Rattle.std.specs.List.{flat_map}
use Rattle.salus_codec.specs.Spelling.{be2}
use Rattle.client_tag.proofs.header.put_each_region.Given as goal

abbrev pub invariant-loop-region : goal.invariant-loop-region
invariant-loop-region l = l.out.items ≡ l.fn.out.items ++ flat_map be2 (take l.region-index l.regions)
