use Rattle.std.proofs.Common.{◌≡◌, ◌∙◌, true, false, sym, subst, rules}
use Rattle.client_rules.specs.Opening.{dumped_here}
use Rattle.session_opening.specs.declared.opening.Outcome.{Outcome}
use Rattle.session_opening.specs.declared.phase.Phase.TheVariants as phase
use Rattle.session_opening.specs.Telling.{Follows, IsTold}
use Rattle.session_opening.proofs.Openings.{fetched_told, not_fetched, stays_open, with_follows}
use Rattle.session_opening.proofs.opening.fetch.Goals as goal

pub returns-then-not-takes-clause-told : goal.returns-then-not-takes-clause-told
returns-then-not-takes-clause-told c = λ volume f geometry key stands.
    let none : c.takes.result ≡ false = search rules in
    subst (λ (o : Outcome). IsTold volume c.args.step.now c.args.step.now o (dumped_here volume f c.args.from c.args.reply)) (sym c.opens.ensures)
    (not_fetched volume c.args.key c.args.fetching f geometry key stands c.args.from c.args.reply c.args.step.now (sym (c.takes.ensures f stands) ∙ none))

pub returns-then-not-takes-clause-follows : goal.returns-then-not-takes-clause-follows
returns-then-not-takes-clause-follows c =
    subst (λ (o : Outcome). Follows (record { key = c.args.key; phase = phase.Fetches c.args.fetching }) o) (sym c.opens.ensures) (stays_open (record { key = c.args.key; phase = phase.Fetches c.args.fetching }))

pub returns-clause-told : goal.returns-clause-told
returns-clause-told c = λ volume f geometry key stands.
    let some : c.takes.result ≡ true = search rules in
    fetched_told volume c.args.key c.args.fetching f geometry key stands c.args.from c.args.reply _ _ c.in_ok-made.made (sym (c.takes.ensures f stands) ∙ some) (c.in_ok-made.ensures.told volume f geometry key stands)

pub returns-clause-follows : goal.returns-clause-follows
returns-clause-follows c =
    with_follows (record { key = c.args.key; phase = phase.Fetches c.args.fetching }) c.args.fetching.served.number c.in_ok-made.made (λ most up. up) c.in_ok-made.ensures.begins
