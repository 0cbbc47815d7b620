use Rattle.std.proofs.Common.{◌≡◌, ◌≤◌, map}
use Rattle.std.specs.Prelude.{filter}
use Rattle.std.specs.List.{range_with_len}
use Rattle.std.specs.Vec.{vec_capacity, vec_len}
use Rattle.salus_types.specs.Volume.{regions}
use Rattle.volume_model.specs.Parts.{touches}
use Rattle.pruned_volume.specs.Trees.{root_at}
use Rattle.pruned_volume.proofs.volume.PrunedVolume.put_roots.Given as goal

abbrev pub invariant-regions : goal.invariant-regions
invariant-regions l = record {
  items : l.roots.items ≡ map (λ g. root_at l.self g) (filter (λ g. touches l.self.shape l.batch g) (map (λ g. g) (range_with_len 0 l.region)));
  few : vec_len l.roots ≤ l.region;
  room : regions l.self.shape ≤ vec_capacity l.roots;
}
