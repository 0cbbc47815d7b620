use Rattle.std.proofs.Common.{◌≡◌, ◌∙◌, sym, ap, subst}
use Rattle.salus_message.specs.declared.wire.Message.TheVariants as message
use Rattle.client_rules.specs.Rules.{received}
use Rattle.client_premises.specs.Premises.{MessageIsApart}
use Rattle.session_opening.specs.declared.opening.Outcome.{Outcome}
use Rattle.session_opening.specs.declared.phase.Phase.TheVariants as phase
use Rattle.session_opening.specs.Kept.{KeptOpening}
use Rattle.session_opening.specs.Standing.{StandsFor}
use Rattle.session_opening.specs.Telling.{Follows, IsTold}
use Rattle.session_opening.proofs.Openings.{as_gathered, stays_open, stray, stray_gathered}
use Rattle.session_opening.proofs.opening.Opening.gathered.Goals as goal

pub returns-in_ok-made-in-Gathers-clause-told : goal.returns-in_ok-made-in-Gathers-clause-told
returns-in_ok-made-in-Gathers-clause-told c = λ volume client stands apart.
    let kept : KeptOpening = record { key = c.into_parts-key.result.0; phase = phase.Gathers c.in-Gathers.gathering } in
    let same : c.args.self ≡ kept = c.into_parts-key.ensures.whole ∙ ap (λ p. record { key = c.into_parts-key.result.0; phase = p }) c.in-Gathers.is in
    let here = subst (λ k. StandsFor volume k client) same stands in
    as_gathered volume c.args.from (λ t. IsTold volume c.args.step.now c.gather.new.step c.in_ok-made-in-Gathers.made t) c.in-Gathers.gathering client c.args.reply.now here.at
    (λ g is gathers. c.in_ok-made-in-Gathers.ensures.told volume g here.geometry here.key gathers (subst (λ x. MessageIsApart volume x c.args.from (message.Gathered c.args.reply.now)) is apart))

pub returns-in_ok-made-in-Gathers-clause-follows : goal.returns-in_ok-made-in-Gathers-clause-follows
returns-in_ok-made-in-Gathers-clause-follows c =
    let kept : KeptOpening = record { key = c.into_parts-key.result.0; phase = phase.Gathers c.in-Gathers.gathering } in
    let same : c.args.self ≡ kept = c.into_parts-key.ensures.whole ∙ ap (λ p. record { key = c.into_parts-key.result.0; phase = p }) c.in-Gathers.is in
    subst (λ k. Follows k c.in_ok-made-in-Gathers.made) (sym same) c.in_ok-made-in-Gathers.ensures.follows

pub returns-in-Fetches-clause-told : goal.returns-in-Fetches-clause-told
returns-in-Fetches-clause-told c = λ volume client stands apart.
    let kept : KeptOpening = record { key = c.into_parts-key.result.0; phase = phase.Fetches c.in-Fetches.fetching } in
    let same : c.args.self ≡ kept = c.into_parts-key.ensures.whole ∙ ap (λ p. record { key = c.into_parts-key.result.0; phase = p }) c.in-Fetches.is in
    let here = subst (λ k. StandsFor volume k client) same stands in
    let told = received volume client c.args.from (message.Gathered c.args.reply.now) in
    subst (λ (o : Outcome). IsTold volume c.args.step.now c.args.step.now o told) (sym c.opens.ensures)
    (stray volume c.args.step.now kept client told here (stray_gathered volume (phase.Fetches c.in-Fetches.fetching) c.args.from client c.args.reply.now here.at (λ x at. at)))

pub returns-in-Fetches-clause-follows : goal.returns-in-Fetches-clause-follows
returns-in-Fetches-clause-follows c =
    let kept : KeptOpening = record { key = c.into_parts-key.result.0; phase = phase.Fetches c.in-Fetches.fetching } in
    let same : c.args.self ≡ kept = c.into_parts-key.ensures.whole ∙ ap (λ p. record { key = c.into_parts-key.result.0; phase = p }) c.in-Fetches.is in
    subst (λ k. Follows k c.opens.result) (sym same) (subst (λ (o : Outcome). Follows kept o) (sym c.opens.ensures) (stays_open kept))

pub returns-in-Begins-clause-told : goal.returns-in-Begins-clause-told
returns-in-Begins-clause-told c = λ volume client stands apart.
    let kept : KeptOpening = record { key = c.into_parts-key.result.0; phase = phase.Begins c.in-Begins.beginning } in
    let same : c.args.self ≡ kept = c.into_parts-key.ensures.whole ∙ ap (λ p. record { key = c.into_parts-key.result.0; phase = p }) c.in-Begins.is in
    let here = subst (λ k. StandsFor volume k client) same stands in
    let told = received volume client c.args.from (message.Gathered c.args.reply.now) in
    subst (λ (o : Outcome). IsTold volume c.args.step.now c.args.step.now o told) (sym c.opens-in-Begins.ensures)
    (stray volume c.args.step.now kept client told here (stray_gathered volume (phase.Begins c.in-Begins.beginning) c.args.from client c.args.reply.now here.at (λ x at. at)))

pub returns-in-Begins-clause-follows : goal.returns-in-Begins-clause-follows
returns-in-Begins-clause-follows c =
    let kept : KeptOpening = record { key = c.into_parts-key.result.0; phase = phase.Begins c.in-Begins.beginning } in
    let same : c.args.self ≡ kept = c.into_parts-key.ensures.whole ∙ ap (λ p. record { key = c.into_parts-key.result.0; phase = p }) c.in-Begins.is in
    subst (λ k. Follows k c.opens-in-Begins.result) (sym same) (subst (λ (o : Outcome). Follows kept o) (sym c.opens-in-Begins.ensures) (stays_open kept))
