use Rattle.std.proofs.Common.{◌≡◌}
use Rattle.std.specs.List.{range_with_len}
use Rattle.disk_node.proofs.formatting.region_numbers.Given as goal

abbrev pub invariant-regions : goal.invariant-regions
invariant-regions l = l.numbers.items ≡ range_with_len 0 l.g
