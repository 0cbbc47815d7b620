use Rattle.std.proofs.Common.{◌≡◌, map}
use Rattle.std.specs.Prelude.{filter}
use Rattle.std.specs.List.{range_with_len}
use Rattle.volume_model.specs.Parts.{touches}
use Rattle.client_window.proofs.batch.touched_regions.Given as goal

abbrev pub invariant-regions : goal.invariant-regions
invariant-regions l = l.touched ≡ filter (λ g. touches l.geometry l.batch g) (map (λ g. g) (range_with_len 0 l.region))
