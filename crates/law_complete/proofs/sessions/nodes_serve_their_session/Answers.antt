use Rattle.law_complete.proofs.Serving.{serves_of}
use Rattle.law_complete.proofs.sessions.nodes_serve_their_session.Goals as goal

pub returns : goal.returns
returns c = serves_of
