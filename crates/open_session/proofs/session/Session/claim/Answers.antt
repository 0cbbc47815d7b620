use Rattle.std.proofs.Common.{List, sym, subst}
use Rattle.salus_types.specs.declared.records.Out.{Out}
use Rattle.replica_rules.specs.Rules.{by_claim}
use Rattle.open_session.specs.Kept.{KeptSession, kept_of}
use Rattle.open_session.specs.Turning.{IsTurn}
use Rattle.open_session.proofs.VotesTaken.{told_turn}
use Rattle.open_session.proofs.Sessions.{turned-after}
use Rattle.open_session.proofs.session.Session.claim.Goals as goal

pub returns-clause-turn : goal.returns-clause-turn
returns-clause-turn c =
    let s = c.self.inside.replica in
    let kept : KeptSession = kept_of s c.self.inside.leader c.self.inside.parts.items c.self.inside.begun c.self.inside.whole in
    let after : KeptSession = kept_of s c.take_claim.new.leader c.take_claim.new.parts.items c.self.inside.begun c.self.inside.whole in
    subst (λ (l : List Out). IsTurn (by_claim c.args.self.now.shape c.args.from c.args.claim.now) c.args.self.now after (told_turn l c.in_ok-outs.fold)) (sym c.from_vec.ensures)
    (turned-after kept c.args.self.now after c.self.inside.geometry (λ shape g. by_claim shape c.args.from c.args.claim.now) (told_turn c.in_ok-outs.outs.items c.in_ok-outs.fold) c.self.view_is c.self.invariant.shape_is
    (c.in_ok-outs.ensures.turn s c.self.inside.begun c.self.invariant.session_is))
