use Rattle.std.proofs.Common.{◌≡◌, ◌∙◌, refl, sym, ap, subst}
use Rattle.salus_message.specs.declared.wire.Message.TheVariants as message
use Rattle.client_rules.specs.State.{Switches, ignored}
use Rattle.client_asking.specs.declared.step.Step.{Step}
use Rattle.client_rules.specs.Opening.{staged_here}
use Rattle.client_rules.specs.Rules.{received}
use Rattle.session_opening.specs.declared.opening.Outcome.{Outcome}
use Rattle.session_opening.specs.declared.opening.Outcome.TheVariants as outcome
use Rattle.session_opening.specs.declared.phase.Phase.TheVariants as phase
use Rattle.session_opening.specs.Kept.{begins_in, IsKept, KeptOpening}
use Rattle.session_opening.specs.Standing.{StandsFor}
use Rattle.session_opening.specs.Telling.{Follows, IsTold}
use Rattle.session_opening.proofs.Openings.{as_staged, begins_follow, begins_stay, staged_told, stays_open, still_told, stray, stray_staged}
use Rattle.session_opening.proofs.opening.Opening.staged.Goals as goal

pub opens-requires-in-Begins : goal.opens-requires-in-Begins
opens-requires-in-Begins c = begins_stay c.in-Begins.beginning c.staged.new.self (subst (λ p. IsKept p) c.in-Begins.is c.into_parts-key.ensures.kept) c.staged.ensures.stays

pub returns-in_ok-staged-in-Begins-clause-told : goal.returns-in_ok-staged-in-Begins-clause-told
returns-in_ok-staged-in-Begins-clause-told c = λ volume client stands.
    let kept : KeptOpening = record { key = c.into_parts-key.result.0; phase = phase.Begins c.in-Begins.beginning } in
    let same : c.args.self ≡ kept = c.into_parts-key.ensures.whole ∙ ap (λ p. record { key = c.into_parts-key.result.0; phase = p }) c.in-Begins.is in
    let here = subst (λ k. StandsFor volume k client) same stands in
    let before = c.in-Begins.beginning in
    let after : Step = record { outs = c.staged.new.outs; lines = c.args.step.now.lines } in
    as_staged volume c.args.from (λ t. IsTold volume c.args.step.now after c.opens-in-Begins.result t) before client c.args.reply here.at
    (λ s stages. subst (λ (o : Outcome). IsTold volume c.args.step.now after o (staged_here volume.geometry s c.args.from c.args.reply.session)) (sym c.opens-in-Begins.ensures)
    (subst (λ sh. IsTold volume c.args.step.now after (outcome.Opens (record { key = kept.key; phase = phase.Begins c.staged.new.self })) (staged_here sh s c.args.from c.args.reply.session)) (sym here.geometry)
    (staged_told volume kept.key before c.staged.new.self here.geometry here.key c.staged.ensures.stays c.args.step.now after (staged_here (begins_in before) s c.args.from c.args.reply.session) refl (c.in_ok-staged-in-Begins.ensures.staging s stages))))
    (λ s switches. subst (λ (o : Outcome). IsTold volume c.args.step.now after o (ignored (Switches s))) (sym c.opens-in-Begins.ensures)
    (still_told volume kept.key before c.staged.new.self here.geometry here.key c.staged.ensures.stays c.args.step.now after (Switches s) (ignored (Switches s)) refl (c.in_ok-staged-in-Begins.ensures.switching s switches).0 (c.in_ok-staged-in-Begins.ensures.switching s switches).1 refl))

pub returns-in_ok-staged-in-Begins-clause-follows : goal.returns-in_ok-staged-in-Begins-clause-follows
returns-in_ok-staged-in-Begins-clause-follows c =
    let kept : KeptOpening = record { key = c.into_parts-key.result.0; phase = phase.Begins c.in-Begins.beginning } in
    let same : c.args.self ≡ kept = c.into_parts-key.ensures.whole ∙ ap (λ p. record { key = c.into_parts-key.result.0; phase = p }) c.in-Begins.is in
    subst (λ k. Follows k c.opens-in-Begins.result) (sym same)
    (subst (λ (o : Outcome). Follows kept o) (sym c.opens-in-Begins.ensures) (begins_follow kept.key c.in-Begins.beginning c.staged.new.self c.staged.ensures.stays))

pub returns-in-Gathers-clause-told : goal.returns-in-Gathers-clause-told
returns-in-Gathers-clause-told c = λ volume client stands.
    let kept : KeptOpening = record { key = c.into_parts-key.result.0; phase = phase.Gathers c.in-Gathers.gathering } in
    let same : c.args.self ≡ kept = c.into_parts-key.ensures.whole ∙ ap (λ p. record { key = c.into_parts-key.result.0; phase = p }) c.in-Gathers.is in
    let here = subst (λ k. StandsFor volume k client) same stands in
    let told = received volume client c.args.from (message.Staged c.args.reply) in
    subst (λ (o : Outcome). IsTold volume c.args.step.now c.args.step.now o told) (sym c.opens.ensures)
    (stray volume c.args.step.now kept client told here (stray_staged volume (phase.Gathers c.in-Gathers.gathering) c.args.from client c.args.reply here.at (λ x at. at)))

pub returns-in-Gathers-clause-follows : goal.returns-in-Gathers-clause-follows
returns-in-Gathers-clause-follows c =
    let kept : KeptOpening = record { key = c.into_parts-key.result.0; phase = phase.Gathers c.in-Gathers.gathering } in
    let same : c.args.self ≡ kept = c.into_parts-key.ensures.whole ∙ ap (λ p. record { key = c.into_parts-key.result.0; phase = p }) c.in-Gathers.is in
    subst (λ k. Follows k c.opens.result) (sym same) (subst (λ (o : Outcome). Follows kept o) (sym c.opens.ensures) (stays_open kept))

pub returns-in-Fetches-clause-told : goal.returns-in-Fetches-clause-told
returns-in-Fetches-clause-told c = λ volume client stands.
    let kept : KeptOpening = record { key = c.into_parts-key.result.0; phase = phase.Fetches c.in-Fetches.fetching } in
    let same : c.args.self ≡ kept = c.into_parts-key.ensures.whole ∙ ap (λ p. record { key = c.into_parts-key.result.0; phase = p }) c.in-Fetches.is in
    let here = subst (λ k. StandsFor volume k client) same stands in
    let told = received volume client c.args.from (message.Staged c.args.reply) in
    subst (λ (o : Outcome). IsTold volume c.args.step.now c.args.step.now o told) (sym c.opens-in-Fetches.ensures)
    (stray volume c.args.step.now kept client told here (stray_staged volume (phase.Fetches c.in-Fetches.fetching) c.args.from client c.args.reply here.at (λ x at. at)))

pub returns-in-Fetches-clause-follows : goal.returns-in-Fetches-clause-follows
returns-in-Fetches-clause-follows c =
    let kept : KeptOpening = record { key = c.into_parts-key.result.0; phase = phase.Fetches c.in-Fetches.fetching } in
    let same : c.args.self ≡ kept = c.into_parts-key.ensures.whole ∙ ap (λ p. record { key = c.into_parts-key.result.0; phase = p }) c.in-Fetches.is in
    subst (λ k. Follows k c.opens-in-Fetches.result) (sym same) (subst (λ (o : Outcome). Follows kept o) (sym c.opens-in-Fetches.ensures) (stays_open kept))
