use Rattle.std.proofs.Common.{arith}
use Rattle.holding_model.specs.Changing.{is_open_base}
use Rattle.datanode_checkpoint.proofs.Lists.{filter_short}
use Rattle.datanode_checkpoint.proofs.foldable.count_open.Goals as goal

pub overflow_add-count : goal.overflow_add-count
overflow_add-count c = omega (arith, c.bases.invariant, filter_short (λ base. is_open_base c.args.held.now base) c.args.held.now.bases c.bases.base-index, c.bases-test.true, c.as_slice-base-items.type_inv.0)
