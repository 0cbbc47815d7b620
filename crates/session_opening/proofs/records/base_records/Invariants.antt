use Rattle.std.proofs.Common.{◌≡◌, map}
use Rattle.std.specs.List.{range_with_len}
use Rattle.session_opening.specs.Basing.{base_by}
use Rattle.session_opening.proofs.records.base_records.Given as goal

abbrev pub invariant-regions : goal.invariant-regions
invariant-regions l = l.records ≡ map (base_by l.geometry l.key l.session l.seq l.roots) (range_with_len 0 l.region)
