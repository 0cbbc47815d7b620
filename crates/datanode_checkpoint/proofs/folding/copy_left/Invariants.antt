use Rattle.std.proofs.Common.{◌≡◌, filter, not, take}
use Rattle.holding_model.specs.Changing.{is_folded}
use Rattle.datanode_checkpoint.proofs.folding.copy_left.Given as goal

abbrev pub invariant-parts : goal.invariant-parts
invariant-parts l = l.parts ≡ filter (λ rec. not (is_folded l.held l.seq rec)) (take l.rec-index l.held.parts)
