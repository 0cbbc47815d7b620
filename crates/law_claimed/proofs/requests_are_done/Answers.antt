use Rattle.law_claimed.proofs.Requested.{requests_done}
use Rattle.law_claimed.proofs.requests_are_done.Goals as goal

pub returns : goal.returns
returns c volume events posts trace limits follows none unforged by come acknowledged = requests_done volume events posts trace limits follows none unforged by come acknowledged
