use Rattle.std.proofs.Common.{◌≡◌, drop}
use Rattle.holding_model.specs.Fitting.{ascends_from}
use Rattle.region_replica.proofs.right_shape.regions_ascend.Given as goal

abbrev pub invariant-regions : goal.invariant-regions
invariant-regions l = ascends_from l.low (drop l.region-index l.regions) ≡ ascends_from 0 l.regions
