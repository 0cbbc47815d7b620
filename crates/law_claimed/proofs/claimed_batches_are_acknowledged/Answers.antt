use Rattle.law_claimed.proofs.Acknowledged.{batches_acknowledged}
use Rattle.law_claimed.proofs.claimed_batches_are_acknowledged.Goals as goal

pub returns : goal.returns
returns c volume events posts trace limits follows none unforged by within each = batches_acknowledged volume events posts trace limits follows none unforged by within each
