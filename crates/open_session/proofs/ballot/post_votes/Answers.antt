use Rattle.open_session.proofs.Sent.{votes-all}
use Rattle.open_session.proofs.ballot.post_votes.Goals as goal

pub returns : goal.returns
returns c = votes-all c.args.geometry.now c.args.outs.now.items c.parts.outs.items c.args.parts.now c.parts.rec-index c.parts.invariant c.parts-test.false
