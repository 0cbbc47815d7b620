use Rattle.std.proofs.Common.{◌≡◌, ◌∙◌, sym, ap}
use Rattle.volume_restart.specs.declared.restart.Phase.TheVariants as phase
use Rattle.volume_restart.specs.Restarting.{staged_in}
use Rattle.session_opening.proofs.Beginnings.{last_on, more_on}
use Rattle.session_opening.proofs.beginning.Beginning.note_staged.Goals as goal

pub returns-in_ok-tell_to_switch-in-Switching-clause-staging : goal.returns-in_ok-tell_to_switch-in-Switching-clause-staging
returns-in_ok-tell_to_switch-in-Switching-clause-staging c = λ s stands.
    let r = c.args.self.now.progress in
    last_on c.args.self.now s c.args.from c.requires.from stands _ _ c.staged.new.self (c.staged.ensures ∙ ap (λ p. staged_in p r c.args.from) stands.phase) (sym c.phase.ensures ∙ c.in-Switching.is) c.in_ok-tell_to_switch-in-Switching.ensures

pub returns-in-Staging-clause-staging : goal.returns-in-Staging-clause-staging
returns-in-Staging-clause-staging c = λ s stands.
    let r = c.args.self.now.progress in
    more_on c.args.self.now s c.args.from c.requires.from stands _ c.staged.new.self (c.staged.ensures ∙ ap (λ p. staged_in p r c.args.from) stands.phase)
    (λ e. let no : phase.Staging ≡ phase.Switching = sym c.in-Staging.is ∙ c.phase.ensures ∙ e in cc)

pub returns-in-Gathering-clause-staging : goal.returns-in-Gathering-clause-staging
returns-in-Gathering-clause-staging c = λ s stands.
    let r = c.args.self.now.progress in
    more_on c.args.self.now s c.args.from c.requires.from stands _ c.staged.new.self (c.staged.ensures ∙ ap (λ p. staged_in p r c.args.from) stands.phase)
    (λ e. let no : phase.Gathering ≡ phase.Switching = sym c.in-Gathering.is ∙ c.phase.ensures ∙ e in cc)

pub returns-in-Done-clause-staging : goal.returns-in-Done-clause-staging
returns-in-Done-clause-staging c = λ s stands.
    let r = c.args.self.now.progress in
    more_on c.args.self.now s c.args.from c.requires.from stands _ c.staged.new.self (c.staged.ensures ∙ ap (λ p. staged_in p r c.args.from) stands.phase)
    (λ e. let no : phase.Done ≡ phase.Switching = sym c.in-Done.is ∙ c.phase.ensures ∙ e in cc)
