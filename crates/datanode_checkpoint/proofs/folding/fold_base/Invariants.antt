use Rattle.std.proofs.Common.{◌≡◌, filter, drop}
use Rattle.salus_types.specs.Volume.{Shape}
use Rattle.holding_model.specs.Changing.{is_folded, base_after_all}
use Rattle.datanode_checkpoint.proofs.folding.fold_base.Given as goal

abbrev pub invariant-parts : goal.invariant-parts
invariant-parts l = (shape : Shape) → base_after_all shape l.folded (filter (λ rec. is_folded l.held l.seq rec) (drop l.rec-index l.held.parts)) ≡ base_after_all shape l.base (filter (λ rec. is_folded l.held l.seq rec) l.held.parts)
