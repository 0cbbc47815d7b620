use Rattle.std.proofs.Common.{◌≡◌}
use Rattle.std.specs.List.{range_with_len}
use Rattle.session_opening.proofs.regions.all_regions.Given as goal

abbrev pub invariant-regions : goal.invariant-regions
invariant-regions l = l.all ≡ range_with_len 0 l.region
