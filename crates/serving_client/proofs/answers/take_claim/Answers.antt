use Rattle.std.proofs.Common.{◌≡◌, ◌∙◌, refl, sym, ne_eqb, eq-eqb}
use Rattle.serving_client.specs.Keeping.{kept_of}
use Rattle.serving_client.proofs.Rooms.{kept_claimed}
use Rattle.serving_client.proofs.Standings.{told_nothing, told_same}
use Rattle.serving_client.proofs.Ruling.{claim_of_another, claim_taken}
use Rattle.serving_client.proofs.Claims.{told_claim}
use Rattle.serving_client.proofs.answers.take_claim.Goals as goal

pub returns-then-session-clause-told : goal.returns-then-session-clause-told
returns-then-session-clause-told c = λ volume client stands.
    told_same volume (kept_of c.args.core.now) c.args.step.now c.args.step.now _ _
    (claim_of_another volume.geometry client c.args.from c.args.session c.args.front
    (ne_eqb c.args.session client.session (λ e. c.if-session.true (e ∙ sym (c.session.ensures.stands client stands.pipeline)))))
    (told_nothing volume (kept_of c.args.core.now) c.args.step.now client stands)

pub returns-in_err-claim-clause-kept : goal.returns-in_err-claim-clause-kept
returns-in_err-claim-clause-kept c = kept_claimed c.args.core.now c.claim.new.self c.requires.kept c.claim.ensures.stays c.claim.ensures.waiting

pub returns-clause-kept : goal.returns-clause-kept
returns-clause-kept c = kept_claimed c.args.core.now c.claim.new.self c.requires.kept c.claim.ensures.stays c.claim.ensures.waiting

pub returns-clause-told : goal.returns-clause-told
returns-clause-told c = λ volume client stands.
    told_same volume (kept_of (record c.args.core.now { pipeline = c.claim.new.self })) c.args.step.now (record { outs = c.args.step.now.outs; lines = c.claim.new.lines }) _ _
    (claim_taken volume.geometry client c.args.from c.args.session c.args.front (eq-eqb c.args.session client.session (c.if-session.false ∙ c.session.ensures.stands client stands.pipeline)))
    (told_claim volume c.args.core.now c.claim.new.self client c.args.from c.args.front c.args.step.now (record { outs = c.args.step.now.outs; lines = c.claim.new.lines }) stands c.claim.ensures.stays
    c.in_ok-claim.ensures.stands c.in_ok-claim.ensures.lines refl)
