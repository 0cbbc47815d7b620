use Rattle.std.proofs.Common.{◌≡◌, true, false, refl, sym, subst, rules}
use Rattle.client_rules.specs.State.{Stages, ignored}
use Rattle.client_rules.specs.Opening.{switched_here}
use Rattle.client_asking.specs.declared.step.Step.{Step}
use Rattle.session_opening.specs.Begun.{IsSwitched}
use Rattle.session_opening.specs.declared.fetching.Served.{Served}
use Rattle.session_opening.specs.declared.opening.Outcome.{Outcome}
use Rattle.session_opening.specs.declared.opening.Outcome.TheVariants as outcome
use Rattle.session_opening.specs.declared.phase.Phase.TheVariants as phase
use Rattle.session_opening.specs.Kept.{begins_in}
use Rattle.session_opening.specs.Telling.{Follows, IsTold}
use Rattle.session_opening.proofs.Openings.{awaits_told, begins_follow, begins_stay, opened_told, serves_follow, still_told}
use Rattle.session_opening.proofs.opening.switch.Goals as goal

pub opens-requires : goal.opens-requires
opens-requires c = begins_stay c.args.beginning c.switched.new.self c.requires.kept c.switched.ensures.stays

pub returns-then-not-switched-clause-switching : goal.returns-then-not-switched-clause-switching
returns-then-not-switched-clause-switching c = λ volume s geometry key stands.
    let more : c.switched.result ≡ false = search rules in
    let told = switched_here (begins_in c.args.beginning) s c.args.from c.args.session in
    subst (λ sh. IsTold volume c.args.step.now c.args.step.now c.opens.result (switched_here sh s c.args.from c.args.session)) (sym geometry)
    (subst (λ (o : Outcome). IsTold volume c.args.step.now c.args.step.now o told) (sym c.opens.ensures)
    (awaits_told volume c.args.key c.args.beginning c.switched.new.self geometry key c.switched.ensures.stays c.args.step.now told
    (subst (λ t. IsSwitched t c.switched.new.self told) more (c.switched.ensures.switching s stands))))

pub returns-then-not-switched-clause-staging : goal.returns-then-not-switched-clause-staging
returns-then-not-switched-clause-staging c = λ volume s geometry key stands.
    subst (λ (o : Outcome). IsTold volume c.args.step.now c.args.step.now o (ignored (Stages s))) (sym c.opens.ensures)
    (still_told volume c.args.key c.args.beginning c.switched.new.self geometry key c.switched.ensures.stays c.args.step.now c.args.step.now (Stages s) (ignored (Stages s)) refl (c.switched.ensures.staging s stands).0 refl refl)

pub returns-then-not-switched-clause-follows : goal.returns-then-not-switched-clause-follows
returns-then-not-switched-clause-follows c =
    subst (λ (o : Outcome). Follows (record { key = c.args.key; phase = phase.Begins c.args.beginning }) o) (sym c.opens.ensures) (begins_follow c.args.key c.args.beginning c.switched.new.self c.switched.ensures.stays)

pub returns-clause-switching : goal.returns-clause-switching
returns-clause-switching c = λ volume s geometry key stands.
    let last : c.switched.result ≡ true = search rules in
    let after = c.switched.new.self in
    let step : Step = record { outs = c.args.step.now.outs; lines = c.push.new.self } in
    let served : Served = record { session = after.session; number = after.seq; roots = after.roots } in
    let told = switched_here (begins_in c.args.beginning) s c.args.from c.args.session in
    subst (λ sh. IsTold volume c.args.step.now step (outcome.Serves served c.args.key) (switched_here sh s c.args.from c.args.session)) (sym geometry)
    (opened_told volume c.args.key c.args.beginning after geometry key c.switched.ensures.stays c.args.step.now step told
    (subst (λ t. IsSwitched t after told) last (c.switched.ensures.switching s stands)) refl (search rules))

pub returns-clause-staging : goal.returns-clause-staging
returns-clause-staging c = λ volume s geometry key stands.
    let last : c.switched.result ≡ true = search rules in
    absurd ((c.switched.ensures.staging s stands).1 last)

pub returns-clause-follows : goal.returns-clause-follows
returns-clause-follows c = serves_follow c.args.key c.args.beginning c.switched.new.self c.requires.kept c.switched.ensures.stays
