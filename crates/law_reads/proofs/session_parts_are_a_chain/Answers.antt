use Rattle.law_reads.proofs.Sessions.{session_chain, last_reached}
use Rattle.law_reads.proofs.session_parts_are_a_chain.Goals as goal

pub returns : goal.returns
returns c = record {
  chain = λ shape key known g long begun inside. session_chain shape key known (record { long = long; begun = begun }) g inside;
  reached = λ shape key known g r long begun inside. last_reached shape key known (record { long = long; begun = begun }) g inside r;
}
