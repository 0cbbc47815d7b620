use Rattle.std.proofs.Common.{List, None, sym, subst}
use Rattle.salus_types.specs.declared.records.Out.{Out}
use Rattle.replica_rules.specs.Rules.{by_dump}
use Rattle.open_session.specs.Kept.{KeptSession, kept_of}
use Rattle.open_session.specs.Turning.{IsTurn}
use Rattle.open_session.proofs.VotesTaken.{told_turn}
use Rattle.open_session.proofs.Sessions.{turned-here}
use Rattle.open_session.proofs.session.Session.dump.Goals as goal

pub returns-clause-turn : goal.returns-clause-turn
returns-clause-turn c =
    let s = c.self.inside.replica in
    let kept : KeptSession = kept_of s c.self.inside.leader c.self.inside.parts.items c.self.inside.begun c.self.inside.whole in
    subst (λ (l : List Out). IsTurn (by_dump c.args.self.now.region c.args.dump.now) c.args.self.now c.args.self.now (told_turn l None)) (sym c.from_vec.ensures)
    (turned-here kept c.args.self.now c.self.inside.geometry (λ shape g. by_dump g c.args.dump.now) (told_turn c.in_ok-outs.outs.items None) c.self.view_is c.self.invariant.shape_is
    (subst (λ g. IsTurn (by_dump g c.args.dump.now) kept kept (told_turn c.in_ok-outs.outs.items None)) (sym c.self.invariant.region_is)
    (c.in_ok-outs.ensures kept c.view.ensures c.self.invariant.session_is)))
