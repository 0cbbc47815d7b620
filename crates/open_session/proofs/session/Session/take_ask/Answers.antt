use Rattle.std.proofs.Common.{List, None, refl, sym, subst}
use Rattle.salus_types.specs.declared.records.Out.{Out}
use Rattle.replica_rules.specs.Rules.{by_ask}
use Rattle.open_session.specs.Kept.{KeptSession, kept_of}
use Rattle.open_session.specs.Turning.{IsTurn}
use Rattle.open_session.proofs.VotesTaken.{told_turn}
use Rattle.open_session.proofs.Sessions.{turned-after}
use Rattle.open_session.proofs.session.Session.take_ask.Goals as goal

pub returns-clause-turn : goal.returns-clause-turn
returns-clause-turn c =
    let s = c.self.inside.replica in
    let kept : KeptSession = kept_of s c.self.inside.leader c.self.inside.parts.items c.self.inside.begun c.self.inside.whole in
    let after : KeptSession = kept_of c.ask_outs.new.replica c.self.inside.leader c.self.inside.parts.items c.self.inside.begun c.self.inside.whole in
    subst (λ (l : List Out). IsTurn (by_ask c.args.self.now.shape c.args.self.now.region c.args.ask) c.args.self.now after (told_turn l None)) (sym c.from_vec.ensures)
    (turned-after kept c.args.self.now after s.shape (λ shape g. by_ask shape g c.args.ask) (told_turn c.in_ok-outs.outs.items None) c.self.view_is refl
    (c.in_ok-outs.ensures.turn c.self.inside.leader c.self.inside.parts.items c.self.inside.begun c.self.inside.whole))
