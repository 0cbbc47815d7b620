use Rattle.std.proofs.Common.{List, None, refl, sym, subst}
use Rattle.salus_types.specs.declared.records.Out.{Out}
use Rattle.replica_rules.specs.Rules.{by_tick}
use Rattle.open_session.specs.Kept.{KeptSession, kept_of}
use Rattle.open_session.specs.Turning.{IsTurn}
use Rattle.open_session.proofs.VotesTaken.{told_turn}
use Rattle.open_session.proofs.Sessions.{turned-here}
use Rattle.open_session.proofs.session.Session.tick.Goals as goal

pub returns-clause-turn : goal.returns-clause-turn
returns-clause-turn c =
    let s = c.self.inside.replica in
    let kept : KeptSession = kept_of s c.self.inside.leader c.self.inside.parts.items c.self.inside.begun c.self.inside.whole in
    subst (λ (l : List Out). IsTurn (by_tick c.args.self.now.shape) c.args.self.now c.args.self.now (told_turn l None)) (sym c.from_vec.ensures)
    (turned-here kept c.args.self.now c.self.inside.geometry (λ shape g. by_tick shape) (told_turn c.in_ok-outs.outs.items None) c.self.view_is c.self.invariant.shape_is
    (c.in_ok-outs.ensures kept refl (sym c.as_slice.ensures.value) refl c.self.invariant.session_is))
