use Rattle.std.proofs.Common.{◌≡◌, ◌∙◌, sym, ap}
use Rattle.volume_restart.specs.declared.restart.Phase.TheVariants as phase
use Rattle.volume_restart.specs.Restarting.{switched_in}
use Rattle.session_opening.proofs.Beginnings.{awaits_on, done_on}
use Rattle.session_opening.proofs.beginning.Beginning.note_switched.Goals as goal

pub returns-in-Done-clause-switching : goal.returns-in-Done-clause-switching
returns-in-Done-clause-switching c = λ s stands.
    let r = c.args.self.now.progress in
    done_on c.args.self.now s c.args.from c.requires.from stands c.switched.new.self (c.switched.ensures ∙ ap (λ p. switched_in p r c.args.from) stands.phase) (sym c.phase.ensures ∙ c.in-Done.is)

pub returns-in-Switching-clause-switching : goal.returns-in-Switching-clause-switching
returns-in-Switching-clause-switching c = λ s stands.
    let r = c.args.self.now.progress in
    awaits_on c.args.self.now s c.args.from c.requires.from stands c.switched.new.self (c.switched.ensures ∙ ap (λ p. switched_in p r c.args.from) stands.phase)
    (λ e. let no : phase.Switching ≡ phase.Done = sym c.in-Switching.is ∙ c.phase.ensures ∙ e in cc)

pub returns-in-Staging-clause-switching : goal.returns-in-Staging-clause-switching
returns-in-Staging-clause-switching c = λ s stands.
    let r = c.args.self.now.progress in
    awaits_on c.args.self.now s c.args.from c.requires.from stands c.switched.new.self (c.switched.ensures ∙ ap (λ p. switched_in p r c.args.from) stands.phase)
    (λ e. let no : phase.Staging ≡ phase.Done = sym c.in-Staging.is ∙ c.phase.ensures ∙ e in cc)

pub returns-in-Gathering-clause-switching : goal.returns-in-Gathering-clause-switching
returns-in-Gathering-clause-switching c = λ s stands.
    let r = c.args.self.now.progress in
    awaits_on c.args.self.now s c.args.from c.requires.from stands c.switched.new.self (c.switched.ensures ∙ ap (λ p. switched_in p r c.args.from) stands.phase)
    (λ e. let no : phase.Gathering ≡ phase.Done = sym c.in-Gathering.is ∙ c.phase.ensures ∙ e in cc)
