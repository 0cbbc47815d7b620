use Rattle.law_reads.proofs.Open.{stays_open, answered_by}
use Rattle.law_reads.proofs.Opened.{opens_asked}
use Rattle.law_reads.proofs.open_reads_end.Goals as goal

pub returns : goal.returns
returns c = record { stays = stays_open; answered = answered_by; opened = opens_asked }
