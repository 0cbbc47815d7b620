use Rattle.replica_rules.specs.Rules.{by_part}
use Rattle.open_session.specs.Kept.{KeptSession, kept_of}
use Rattle.open_session.proofs.Sessions.{session-after, same-after, turn-after, adds-after}
use Rattle.open_session.proofs.session.Session.take_part.Goals as goal

pub invariant_of-self : goal.invariant_of-self
invariant_of-self c =
    session-after c.self.inside.geometry c.self.inside.region c.self.inside.session c.self.inside.replica c.hand_part.new.replica c.self.inside.leader c.hand_part.new.leader c.self.inside.parts.items c.hand_part.new.parts.items
    c.self.inside.begun c.self.inside.whole c.self.invariant c.hand_part.ensures.stays c.hand_part.ensures.led

pub returns-clause-same : goal.returns-clause-same
returns-clause-same c =
    let s = c.self.inside.replica in
    let kept : KeptSession = kept_of s c.self.inside.leader c.self.inside.parts.items c.self.inside.begun c.self.inside.whole in
    let after : KeptSession = kept_of c.hand_part.new.replica c.hand_part.new.leader c.hand_part.new.parts.items c.self.inside.begun c.self.inside.whole in
    same-after kept c.args.self.now after c.self.view_is c.hand_part.ensures.stays

pub returns-clause-turn : goal.returns-clause-turn
returns-clause-turn c =
    let s = c.self.inside.replica in
    let kept : KeptSession = kept_of s c.self.inside.leader c.self.inside.parts.items c.self.inside.begun c.self.inside.whole in
    let after : KeptSession = kept_of c.hand_part.new.replica c.hand_part.new.leader c.hand_part.new.parts.items c.self.inside.begun c.self.inside.whole in
    turn-after kept c.args.self.now after c.self.inside.geometry (λ shape g. by_part shape g c.args.rec) c.hand_part.result c.self.view_is c.self.invariant.shape_is
    (c.hand_part.ensures.turn c.self.inside.begun c.self.inside.whole)

pub returns-clause-own : goal.returns-clause-own
returns-clause-own c =
    adds-after c.self.inside.replica c.hand_part.new.replica c.hand_part.new.leader c.hand_part.new.parts.items c.self.inside.begun c.self.inside.whole c.hand_part.result c.hand_part.ensures.stays
    c.self.invariant.records c.hand_part.ensures.newest
