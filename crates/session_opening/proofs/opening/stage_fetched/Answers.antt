use Rattle.std.proofs.Common.{sym, subst}
use Rattle.client_rules.specs.Opening.{fetched_blocks, staged_from}
use Rattle.session_opening.specs.declared.opening.Outcome.{Outcome}
use Rattle.session_opening.specs.Telling.{BeginsWith, IsTold}
use Rattle.session_opening.proofs.Openings.{begun_here, begun_told, begun_with, by_fetching}
use Rattle.session_opening.proofs.opening.stage_fetched.Goals as goal

pub opens-requires : goal.opens-requires
opens-requires c = begun_here c.args.fetching.geometry _ c.in_ok-beginning.ensures.kept

pub returns-clause-told : goal.returns-clause-told
returns-clause-told c = λ volume f geometry key stands.
    let kept = c.args.fetching in
    let told = staged_from volume kept.session kept.served.session kept.served.number f.contents (fetched_blocks kept.region c.args.fetched) in
    subst (λ t. IsTold volume c.args.step.now c.stage.new.step c.opens.result t) (by_fetching volume kept f stands c.args.fetched)
    (subst (λ (o : Outcome). IsTold volume c.args.step.now c.stage.new.step o told) (sym c.opens.ensures)
    (begun_told kept.geometry c.args.key _ c.in_ok-beginning.ensures.kept volume _ _ told geometry key
    (c.in_ok-beginning.ensures.told volume f.contents geometry key stands.roots stands.long)))

pub returns-clause-begins : goal.returns-clause-begins
returns-clause-begins c =
    subst (λ (o : Outcome). BeginsWith c.args.fetching.geometry c.args.key c.args.fetching.served.number o) (sym c.opens.ensures)
    (begun_with c.args.fetching.geometry c.args.key _ c.in_ok-beginning.ensures.kept c.args.fetching.served.number c.in_ok-beginning.ensures.seq)
