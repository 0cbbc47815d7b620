use Rattle.std.proofs.Common.{◌≡◌, ◌∙◌, true, false, sym, subst, eqb-true, rules}
use Rattle.volume_restart.specs.declared.restart.Phase.TheVariants as phase
use Rattle.volume_restart.specs.Restarting.{shape_of}
use Rattle.client_rules.specs.Opening.{switched_here}
use Rattle.session_opening.specs.Begun.{IsSwitched}
use Rattle.session_opening.proofs.Beginnings.{unswitched}
use Rattle.session_opening.proofs.beginning.Beginning.switched.Goals as goal

pub returns-then-not-is_of-clause-switching : goal.returns-then-not-is_of-clause-switching
returns-then-not-is_of-clause-switching c = λ s stands.
    let other : c.is_of.result ≡ false = search rules in
    unswitched c.args.self.now s c.args.from c.requires.from stands c.args.session (sym c.is_of.ensures ∙ other)

pub returns-in-Switching-clause-switching : goal.returns-in-Switching-clause-switching
returns-in-Switching-clause-switching c = λ s stands.
    let ours : c.is_of.result ≡ true = search rules in
    let same : c.args.session ≡ c.args.self.now.session = eqb-true c.args.session c.args.self.now.session (sym c.is_of.ensures ∙ ours) in
    subst (λ e. IsSwitched c.note_switched.result c.note_switched.new.self (switched_here (shape_of c.args.self.now.progress) s c.args.from e)) (sym same) (c.note_switched.ensures.switching s stands)

pub returns-in-Switching-clause-staging : goal.returns-in-Switching-clause-staging
returns-in-Switching-clause-staging c = λ s stands. absurd (let no : phase.Switching ≡ phase.Staging = sym c.in-Switching.is ∙ c.phase.ensures ∙ stands.phase in cc)

pub returns-in-Gathering-clause-staging : goal.returns-in-Gathering-clause-staging
returns-in-Gathering-clause-staging c = λ s stands. absurd (let no : phase.Gathering ≡ phase.Staging = sym c.in-Gathering.is ∙ c.phase.ensures ∙ stands.phase in cc)

pub returns-in-Done-clause-staging : goal.returns-in-Done-clause-staging
returns-in-Done-clause-staging c = λ s stands. absurd (let no : phase.Done ≡ phase.Staging = sym c.in-Done.is ∙ c.phase.ensures ∙ stands.phase in cc)

pub returns-in-Gathering-clause-switching : goal.returns-in-Gathering-clause-switching
returns-in-Gathering-clause-switching c = λ s stands. absurd (let no : phase.Gathering ≡ phase.Switching = sym c.in-Gathering.is ∙ c.phase.ensures ∙ stands.phase in cc)

pub returns-in-Staging-clause-switching : goal.returns-in-Staging-clause-switching
returns-in-Staging-clause-switching c = λ s stands. absurd (let no : phase.Staging ≡ phase.Switching = sym c.in-Staging.is ∙ c.phase.ensures ∙ stands.phase in cc)

pub returns-in-Done-clause-switching : goal.returns-in-Done-clause-switching
returns-in-Done-clause-switching c = λ s stands. absurd (let no : phase.Done ≡ phase.Switching = sym c.in-Done.is ∙ c.phase.ensures ∙ stands.phase in cc)
