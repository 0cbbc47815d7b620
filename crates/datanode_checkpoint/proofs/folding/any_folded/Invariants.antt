use Rattle.std.proofs.Common.{◌≡◌, drop}
use Rattle.std.specs.List.{list_any}
use Rattle.holding_model.specs.Changing.{is_folded}
use Rattle.datanode_checkpoint.proofs.folding.any_folded.Given as goal

abbrev pub invariant-loop-rec : goal.invariant-loop-rec
invariant-loop-rec l = list_any (λ rec. is_folded l.held l.seq rec) (drop l.rec-index l.held.parts) ≡ list_any (λ rec. is_folded l.held l.seq rec) l.held.parts
