use Rattle.law_reads.proofs.Sessions.{session_chain}
use Rattle.law_reads.specs.Chained.{IsViewOf}
use Rattle.salus_model.specs.Forgery.{IsPartOf}
use Rattle.law_claimed.proofs.Through.{goes_through}
use Rattle.law_claimed.proofs.nodes_go_through_a_session.Goals as goal

pub returns : goal.returns
returns c shape key known g inputs node m long begun inside there turn only stays =
    goes_through shape (IsPartOf shape key known g) (IsViewOf shape known g) (session_chain shape key known (record { long = long; begun = begun }) g inside) g inputs node m there turn only stays
