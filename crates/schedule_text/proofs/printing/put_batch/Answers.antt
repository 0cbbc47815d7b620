use Rattle.std.proofs.Common.{arith}
use Rattle.schedule_text.specs.Grammar.{pair_values}
use Rattle.schedule_text.specs.Printing.{spaced}
use Rattle.schedule_text.proofs.Joined.{all_walked}
use Rattle.schedule_text.proofs.printing.put_batch.Goals as goal

pub returns : goal.returns
returns c = all_walked spaced pair_values _ _ c.as_slice-write-items.result.now _ c.writes.write-index c.writes.invariant (omega arith) c.as_slice-write-items.ensures
