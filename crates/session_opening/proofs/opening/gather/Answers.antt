use Rattle.std.proofs.Common.{◌≡◌, ◌∙◌, [], ◌∷◌, length, rules, refl, sym, ap, ap₂, subst, arith}
use Rattle.std.specs.List.{AllByRecursion}
use Rattle.salus_types.specs.Volume.{blocks}
use Rattle.volume_model.specs.Contents.{blocks_in, roots_of}
use Rattle.printed_lines.specs.declared.line.Line.TheVariants as line
use Rattle.client_rules.specs.State.{Closed}
use Rattle.client_rules.specs.Opening.{gathered_here, staged_from}
use Rattle.client_asking.specs.declared.step.Step.{Step}
use Rattle.session_opening.specs.declared.gathering.Turn.{Turn}
use Rattle.session_opening.specs.declared.opening.Outcome.{Outcome}
use Rattle.session_opening.specs.declared.phase.Phase.TheVariants as phase
use Rattle.session_opening.specs.Gathered.{IsGathering, IsTurn, IsWhole}
use Rattle.session_opening.specs.Kept.{gathers_in}
use Rattle.session_opening.specs.Telling.{BeginsWith, Follows, IsTold}
use Rattle.session_opening.proofs.Openings.{lost_told, waits_follow, waits_told, with_follows}
use Rattle.session_opening.proofs.opening.gather.Goals as goal

pub opens-requires : goal.opens-requires
opens-requires c = subst (λ s. IsGathering s c.take.new.self) (sym c.in_ok-turn.ensures.kept.shape_is) c.in_ok-turn.ensures.kept

pub returns-in-Waits-clause-told : goal.returns-in-Waits-clause-told
returns-in-Waits-clause-told c = λ volume g geometry key stands apart.
    let told = gathered_here volume g c.args.from c.args.reply.now in
    subst (λ (o : Outcome). IsTold volume c.args.step.now c.args.step.now o told) (sym c.opens.ensures)
    (waits_told volume c.args.key c.args.gathering c.take.new.self geometry key c.in_ok-turn.ensures.kept c.args.step.now told
    (subst (λ (t : Turn). IsTurn volume c.take.new.self t told) c.in-Waits.is (c.in_ok-turn.ensures.told volume g geometry key stands apart)))

pub returns-in-Waits-clause-follows : goal.returns-in-Waits-clause-follows
returns-in-Waits-clause-follows c =
    subst (λ (o : Outcome). Follows (record { key = c.args.key; phase = phase.Gathers c.args.gathering }) o) (sym c.opens.ensures) (waits_follow c.args.key c.args.gathering c.take.new.self c.in_ok-turn.ensures.kept)

pub returns-in_ok-push-in-Lost-clause-told : goal.returns-in_ok-push-in-Lost-clause-told
returns-in_ok-push-in-Lost-clause-told c = λ volume g geometry key stands apart.
    let told = gathered_here volume g c.args.from c.args.reply.now in
    let none = subst (λ (t : Turn). IsTurn volume c.take.new.self t told) c.in-Lost.is (c.in_ok-turn.ensures.told volume g geometry key stands apart) in
    let after : Step = record { outs = c.args.step.now.outs; lines = c.push.new.self } in
    lost_told volume c.args.key c.args.gathering.session c.args.step.now after told key (none ∙ ap (λ e. record { client = Closed; outs = []; lines = line.Lost e ∷ [] }) c.take.ensures.session) refl (search rules)

pub stage_choice-requires-clause-count : goal.stage_choice-requires-clause-count
stage_choice-requires-clause-count c =
    (subst (λ (t : Turn). IsWhole (gathers_in c.args.gathering) t) c.in-Chose.is c.in_ok-turn.ensures.whole).0 ∙ ap blocks (sym c.geometry-geometry.ensures)

pub stage_choice-requires-clause-roots : goal.stage_choice-requires-clause-roots
stage_choice-requires-clause-roots c =
    subst (λ s. c.in-Chose.choice.roots ≡ roots_of s c.in-Chose.choice.contents) (sym c.geometry-geometry.ensures)
    (subst (λ (t : Turn). IsWhole (gathers_in c.args.gathering) t) c.in-Chose.is c.in_ok-turn.ensures.whole).3

pub stage_choice-requires-clause-sized : goal.stage_choice-requires-clause-sized
stage_choice-requires-clause-sized c =
    subst (λ s. AllByRecursion (λ x. length x ≡ s.block) c.in-Chose.choice.contents) (sym c.geometry-geometry.ensures)
    (subst (λ (t : Turn). IsWhole (gathers_in c.args.gathering) t) c.in-Chose.is c.in_ok-turn.ensures.whole).1

pub returns-in_ok-made-in-Chose-clause-told : goal.returns-in_ok-made-in-Chose-clause-told
returns-in_ok-made-in-Chose-clause-told c = λ volume g geometry key stands apart.
    let told = gathered_here volume g c.args.from c.args.reply.now in
    let choice = c.in-Chose.choice in
    let chose = subst (λ (t : Turn). IsTurn volume c.take.new.self t told) c.in-Chose.is (c.in_ok-turn.ensures.told volume g geometry key stands apart) in
    subst (λ t. IsTold volume c.args.step.now c.stage_choice.new.step c.in_ok-made-in-Chose.made t)
    (ap₂ (λ e s. staged_from volume e choice.session choice.number choice.contents (λ r. blocks_in s choice.contents r)) (sym c.take.ensures.session) (c.geometry-geometry.ensures ∙ sym geometry) ∙ sym chose)
    (c.in_ok-made-in-Chose.ensures.told volume (geometry ∙ sym c.geometry-geometry.ensures) key)

pub returns-in_ok-made-in-Chose-clause-follows : goal.returns-in_ok-made-in-Chose-clause-follows
returns-in_ok-made-in-Chose-clause-follows c =
    let low = (subst (λ (t : Turn). IsWhole (gathers_in c.args.gathering) t) c.in-Chose.is c.in_ok-turn.ensures.whole).2 in
    with_follows (record { key = c.args.key; phase = phase.Gathers c.args.gathering }) c.in-Chose.choice.number c.in_ok-made-in-Chose.made (λ most up. omega (arith, low, up))
    (subst (λ s. BeginsWith s c.args.key c.in-Chose.choice.number c.in_ok-made-in-Chose.made) c.geometry-geometry.ensures c.in_ok-made-in-Chose.ensures.begins)
