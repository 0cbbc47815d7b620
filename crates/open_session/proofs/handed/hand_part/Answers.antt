use Rattle.std.proofs.Common.{◌∙◌, List, None, sym, subst}
use Rattle.salus_types.specs.declared.records.Out.{Out}
use Rattle.replica_rules.specs.Rules.{by_part}
use Rattle.open_session.specs.Kept.{kept_of}
use Rattle.open_session.specs.Turning.{IsTurn}
use Rattle.open_session.proofs.Adding.{part-turned}
use Rattle.open_session.proofs.handed.hand_part.Goals as goal

pub returns-clause-turn : goal.returns-clause-turn
returns-clause-turn c = λ begun whole.
    subst (λ (l : List Out). IsTurn (by_part c.args.geometry.now c.args.replica.now.region c.args.rec) (kept_of c.args.replica.now c.args.leader.now c.args.parts.now.items begun whole)
    (kept_of c.answer_due.new.replica c.claim_all.new.leader c.take_in.new.parts.items begun whole) (record { outs = l; added = c.in_ok-added.added; fold = None })) (sym c.from_vec.ensures)
    (part-turned c.args.geometry.now c.args.session c.args.replica.now c.take_in.new.replica c.answer_due.new.replica c.args.rec c.args.leader.now c.take_in.new.leader c.claim_all.new.leader c.args.parts.now.items c.take_in.new.parts.items
    c.take_in.new.outs.items c.answer_due.new.outs.items c.claim_all.new.outs.items c.in_ok-added.added begun whole
    (c.take_in.ensures.stays.shape ∙ c.requires.shape) (c.take_in.ensures.stays.session ∙ c.requires.session) (c.in_ok-added.ensures.turn begun whole)
    c.in_ok-answer_due.ensures.state c.in_ok-answer_due.ensures.outs c.in_ok-claim_all.ensures.front c.in_ok-claim_all.ensures.outs)
