use Rattle.std.proofs.Common.{◌≡◌, ◌∙◌, ◌++◌, map, sym, ap, subst}
use Rattle.posting.specs.Letters.{out_of_letter}
use Rattle.client_rules.specs.Rules.{ticked}
use Rattle.session_opening.specs.declared.phase.Phase.TheVariants as phase
use Rattle.session_opening.specs.Standing.{StandsFor}
use Rattle.session_opening.proofs.Openings.{ticks_fetching, ticks_gathering}
use Rattle.session_opening.proofs.opening.Opening.tick.Goals as goal

pub returns-in_ok-ask-in-Gathers : goal.returns-in_ok-ask-in-Gathers
returns-in_ok-ask-in-Gathers c = λ volume client stands.
    let same : c.args.self.now ≡ record { key = c.args.self.now.key; phase = phase.Gathers c.in-Gathers.gathering } =
    ap (λ p. record { key = c.args.self.now.key; phase = p }) (sym c.phase.ensures.value ∙ c.in-Gathers.is) in
    let here = subst (λ k. StandsFor volume k client) same stands in
    ticks_gathering volume.geometry c.in-Gathers.gathering client c.args.outs.now.items c.ask.new.outs.items here.geometry here.at c.in_ok-ask-in-Gathers.ensures

pub returns-in_ok-ask-in-Fetches : goal.returns-in_ok-ask-in-Fetches
returns-in_ok-ask-in-Fetches c = λ volume client stands.
    let same : c.args.self.now ≡ record { key = c.args.self.now.key; phase = phase.Fetches c.in-Fetches.fetching } =
    ap (λ p. record { key = c.args.self.now.key; phase = p }) (sym c.phase.ensures.value ∙ c.in-Fetches.is) in
    let here = subst (λ k. StandsFor volume k client) same stands in
    ticks_fetching volume.geometry c.in-Fetches.fetching client c.args.outs.now.items c.ask-in-Fetches.new.outs.items here.geometry here.at c.in_ok-ask-in-Fetches.ensures

pub returns-in_ok-tell-in-Begins : goal.returns-in_ok-tell-in-Begins
returns-in_ok-tell-in-Begins c = λ volume client stands.
    let same : c.args.self.now ≡ record { key = c.args.self.now.key; phase = phase.Begins c.in-Begins.beginning } =
    ap (λ p. record { key = c.args.self.now.key; phase = p }) (sym c.phase.ensures.value ∙ c.in-Begins.is) in
    let here = subst (λ k. StandsFor volume k client) same stands in
    subst (λ s. c.tell.new.outs.items ≡ c.args.outs.now.items ++ map out_of_letter (ticked s client)) (sym here.geometry) (c.in_ok-tell-in-Begins.ensures client here.at)
