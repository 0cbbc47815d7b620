use Rattle.verified_read.proofs.reads.Reads.decide.Goals as goal

pub returns-in-Past-clause-said : goal.returns-in-Past-clause-said
returns-in-Past-clause-said c = (c.judge.ensures.past c.in-Past.at).0 c.in-Past.is

pub returns-in-Stale-clause-said : goal.returns-in-Stale-clause-said
returns-in-Stale-clause-said c = (c.judge.ensures.stale c.in-Stale.at).0 c.in-Stale.is
