use Rattle.law_complete.proofs.SessionsLaw.{nodes_begin}
use Rattle.law_complete.proofs.sessions.nodes_begin_their_session.Goals as goal

pub returns : goal.returns
returns c = nodes_begin
