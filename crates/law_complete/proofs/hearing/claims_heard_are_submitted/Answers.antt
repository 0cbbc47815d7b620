use Rattle.law_complete.proofs.HearingLaw.{claims_within}
use Rattle.law_complete.proofs.hearing.claims_heard_are_submitted.Goals as goal

pub returns : goal.returns
returns c = claims_within
