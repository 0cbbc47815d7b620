use Rattle.std.proofs.Common.{◌≡◌, ◌∙◌, ◌++◌, None, List, sym, ap, subst}
use Rattle.std.specs.Prelude.{flat_map}
use Rattle.salus_types.specs.Volume.{Shape}
use Rattle.salus_types.specs.declared.records.Header.{Header}
use Rattle.salus_types.specs.declared.records.Out.{Out}
use Rattle.replica_rules.specs.Leading.{all_certified}
use Rattle.replica_rules.specs.Rules.{by_claim}
use Rattle.open_session.specs.Kept.{kept_of}
use Rattle.open_session.specs.Turning.{IsTurn}
use Rattle.open_session.specs.Claiming.{claims_out}
use Rattle.open_session.specs.Folding.{fold_at}
use Rattle.open_session.proofs.VotesTaken.{told_turn, claim-not, claim-taken}
use Rattle.open_session.proofs.handed.take_claim.Goals as goal

pub returns-then-not-counts_claim-clause-turn : goal.returns-then-not-counts_claim-clause-turn
returns-then-not-counts_claim-clause-turn c = λ s begun same.
    let kept = kept_of s c.args.leader.now c.args.parts.now.items begun c.args.whole in
    subst (λ (l : List Out). IsTurn (by_claim c.args.geometry.now c.args.from c.args.claim.now) kept kept (told_turn l None)) (sym c.new-outs.ensures.items)
    (claim-not c.args.geometry.now c.args.from c.args.claim.now c.args.session kept same (sym c.counts_claim.ensures ∙ c.if-not-counts_claim.true))

pub returns-clause-turn : goal.returns-clause-turn
returns-clause-turn c = λ s begun same.
    let shape : c.claim_all.new.leader.shape ≡ c.args.geometry.now = c.claim_all.ensures.place.0 ∙ c.claim.ensures.place.0 ∙ c.requires.shape in
    claim-taken c.args.geometry.now c.args.from c.args.claim.now c.args.session (kept_of s c.args.leader.now c.args.parts.now.items begun c.args.whole) same (sym c.counts_claim.ensures ∙ c.if-not-counts_claim.false)
    c.claim.new.self c.claim_all.new.leader c.claim_all.new.outs.items c.fold-folded.new.parts.items c.fold-folded.result c.claim.ensures.claims c.in_ok-claim_all.ensures.front
    (λ l stands. c.in_ok-claim_all.ensures.outs l stands
    ∙ ap (λ (k : List Out). k ++ flat_map (λ (h : Header). claims_out c.args.geometry.now c.args.session h.seq) (all_certified c.args.geometry.now l)) c.new-outs.ensures.items)
    (λ l stands. c.fold-folded.ensures.fold l stands ∙ ap (λ (sh : Shape). fold_at sh c.args.whole l.claims c.args.parts.now.items) shape)
    c.fold-folded.ensures.parts
