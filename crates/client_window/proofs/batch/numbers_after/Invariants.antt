use Rattle.std.proofs.Common.{◌≡◌, map, if◌then◌else◌}
use Rattle.std.specs.Prelude.{slice_index}
use Rattle.std.specs.List.{range_with_len}
use Rattle.volume_model.specs.Parts.{touches}
use Rattle.client_window.proofs.batch.numbers_after.Given as goal

abbrev pub invariant-regions : goal.invariant-regions
invariant-regions l = l.after ≡ map (λ g. if touches l.geometry l.batch g then l.next else slice_index l.numbers g) (range_with_len 0 l.region)
