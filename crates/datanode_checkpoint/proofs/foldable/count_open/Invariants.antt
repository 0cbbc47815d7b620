use Rattle.std.proofs.Common.{◌≡◌, length, filter, take}
use Rattle.holding_model.specs.Changing.{is_open_base}
use Rattle.datanode_checkpoint.proofs.foldable.count_open.Given as goal

abbrev pub invariant-bases : goal.invariant-bases
invariant-bases l = l.count ≡ length (filter (λ base. is_open_base l.held base) (take l.base-index l.held.bases))
