use Rattle.std.proofs.Common.{sym, subst}
use Rattle.volume_model.specs.Contents.{blocks_in}
use Rattle.client_rules.specs.Opening.{staged_from}
use Rattle.session_opening.specs.declared.opening.Outcome.{Outcome}
use Rattle.session_opening.specs.Telling.{BeginsWith, IsTold}
use Rattle.session_opening.proofs.Openings.{begun_here, begun_told, begun_with, roots_count}
use Rattle.session_opening.proofs.opening.stage_choice.Goals as goal

pub stage-requires-clause-roots : goal.stage-requires-clause-roots
stage-requires-clause-roots c = roots_count c.args.geometry c.args.choice.contents c.args.choice.roots c.requires.roots

pub stage-requires-clause-loaded : goal.stage-requires-clause-loaded
stage-requires-clause-loaded c = (c.requires.count, c.requires.sized)

pub opens-requires : goal.opens-requires
opens-requires c = begun_here c.args.geometry _ c.in_ok-beginning.ensures.kept

pub returns-clause-told : goal.returns-clause-told
returns-clause-told c = λ volume geometry key.
    let choice = c.args.choice in
    let told = staged_from volume c.args.session choice.session choice.number choice.contents (λ r. blocks_in c.args.geometry choice.contents r) in
    subst (λ (o : Outcome). IsTold volume c.args.step.now c.stage.new.step o told) (sym c.opens.ensures)
    (begun_told c.args.geometry c.args.key _ c.in_ok-beginning.ensures.kept volume _ _ told geometry key
    (c.in_ok-beginning.ensures.told volume choice.contents geometry key c.requires.roots c.requires.count))

pub returns-clause-begins : goal.returns-clause-begins
returns-clause-begins c =
    subst (λ (o : Outcome). BeginsWith c.args.geometry c.args.key c.args.choice.number o) (sym c.opens.ensures)
    (begun_with c.args.geometry c.args.key _ c.in_ok-beginning.ensures.kept c.args.choice.number c.in_ok-beginning.ensures.seq)
