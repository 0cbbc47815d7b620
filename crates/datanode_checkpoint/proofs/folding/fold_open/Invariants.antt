use Rattle.std.proofs.Common.{◌≡◌, filter, map, take}
use Rattle.salus_types.specs.Volume.{Shape}
use Rattle.holding_model.specs.Changing.{is_folded, is_open_base, base_after_all}
use Rattle.datanode_checkpoint.proofs.folding.fold_open.Given as goal

abbrev pub invariant-bases : goal.invariant-bases
invariant-bases l = (shape : Shape) → l.bases ≡ map (λ base. base_after_all shape base (filter (λ rec. is_folded l.held l.seq rec) l.held.parts)) (filter (λ base. is_open_base l.held base) (take l.base-index l.held.bases))
