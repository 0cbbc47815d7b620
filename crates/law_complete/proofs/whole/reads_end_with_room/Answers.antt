use Rattle.law_complete.proofs.Roomy.{reads_with_room}
use Rattle.law_complete.proofs.whole.reads_end_with_room.Goals as goal

pub returns : goal.returns
returns c = reads_with_room
