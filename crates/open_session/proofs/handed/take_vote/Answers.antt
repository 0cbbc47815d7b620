use Rattle.std.proofs.Common.{◌∙◌, ◌++◌, None, List, sym, ap, subst}
use Rattle.std.specs.Prelude.{flat_map}
use Rattle.salus_types.specs.declared.records.Header.{Header}
use Rattle.salus_types.specs.declared.records.Out.{Out}
use Rattle.replica_rules.specs.Leading.{all_certified}
use Rattle.replica_rules.specs.Rules.{by_vote}
use Rattle.open_session.specs.Kept.{kept_of}
use Rattle.open_session.specs.Turning.{IsTurn}
use Rattle.open_session.specs.Claiming.{claims_out}
use Rattle.open_session.proofs.VotesTaken.{told_turn, vote-not, vote-taken}
use Rattle.open_session.proofs.handed.take_vote.Goals as goal

pub returns-then-not-counts_vote-clause-turn : goal.returns-then-not-counts_vote-clause-turn
returns-then-not-counts_vote-clause-turn c = λ s parts begun whole same.
    let kept = kept_of s c.args.leader.now parts begun whole in
    subst (λ (l : List Out). IsTurn (by_vote c.args.geometry.now c.args.from c.args.vote.now) kept kept (told_turn l None)) (sym c.new-outs.ensures.items)
    (vote-not c.args.geometry.now c.args.from c.args.vote.now c.args.session kept same (sym c.counts_vote.ensures ∙ c.if-not-counts_vote.true))

pub returns-clause-turn : goal.returns-clause-turn
returns-clause-turn c = λ s parts begun whole same.
    vote-taken c.args.geometry.now c.args.from c.args.vote.now c.args.session (kept_of s c.args.leader.now parts begun whole) same (sym c.counts_vote.ensures ∙ c.if-not-counts_vote.false)
    c.vote.new.self c.claim_all.new.leader c.claim_all.new.outs.items c.vote.ensures.votes c.in_ok-claim_all.ensures.front
    (λ l stands. c.in_ok-claim_all.ensures.outs l stands
    ∙ ap (λ (k : List Out). k ++ flat_map (λ (h : Header). claims_out c.args.geometry.now c.args.session h.seq) (all_certified c.args.geometry.now l)) c.new-outs.ensures.items)
