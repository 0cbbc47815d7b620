use Rattle.std.proofs.Common.{nat_lt}
use Rattle.salus_types.specs.declared.records.Record.{Record}
use Rattle.open_session.proofs.Sent.{votes-some}
use Rattle.open_session.proofs.ballot.post_votes_above.Goals as goal

pub returns : goal.returns
returns c =
    votes-some c.args.geometry.now (λ (rec : Record). nat_lt c.args.number rec.header.seq) c.args.outs.now.items c.parts.outs.items c.args.parts.now c.parts.rec-index c.parts.invariant c.parts-test.false
