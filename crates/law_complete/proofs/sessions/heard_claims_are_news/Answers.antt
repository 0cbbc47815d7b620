use Rattle.law_complete.proofs.ClaimsHeard.{claims_heard}
use Rattle.law_complete.proofs.sessions.heard_claims_are_news.Goals as goal

pub returns : goal.returns
returns c = claims_heard
