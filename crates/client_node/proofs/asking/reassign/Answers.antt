use Rattle.std.proofs.Common.{[], ◌∷◌, sym, subst}
use Rattle.printed_lines.specs.declared.line.Line.TheVariants as line
use Rattle.salus_model.specs.declared.trace.Request.TheVariants as request
use Rattle.client_rules.specs.State.{Client, Told}
use Rattle.client_rules.specs.Rules.{requested}
use Rattle.client_node.specs.declared.asking.Ruling.{Ruling}
use Rattle.client_node.specs.Asking.{IsLeft, IsRuling}
use Rattle.client_node.specs.Phases.{Follows, Plays}
use Rattle.client_node.proofs.Opened.{stays_with}
use Rattle.client_node.proofs.asking.reassign.Goals as goal

pub returns-in_ok-refuse-in-Refuses-clause-rules : goal.returns-in_ok-refuse-in-Refuses-clause-rules
returns-in_ok-refuse-in-Refuses-clause-rules c = λ volume client plays.
    stays_with volume c.args.phase.now c.args.step.now c.refuse.new.step client (line.Refused c.args.event c.in-Refuses.cause ∷ [])
    (requested volume client c.args.event (request.Reassign c.args.session c.args.region)) plays (c.in_ok-refuse-in-Refuses.ensures client)
    (subst (λ (r : Ruling). IsRuling volume client c.args.event c.args.session c.args.region r) c.in-Refuses.is (c.in_ok-cause.ensures.rule volume client c.args.event plays))

pub returns-in_ok-fetch-in-Leaves-clause-rules : goal.returns-in_ok-fetch-in-Leaves-clause-rules
returns-in_ok-fetch-in-Leaves-clause-rules c = λ volume client plays.
    let left : IsLeft volume client c.args.event c.args.session c.args.region c.in-Leaves.served =
    subst (λ (r : Ruling). IsRuling volume client c.args.event c.args.session c.args.region r) c.in-Leaves.is (c.in_ok-cause.ensures.rule volume client c.args.event plays) in
    subst (λ (t : Told). Follows volume c.args.step.now c.fetch.new.step c.fetch.new.phase t) (sym left.told)
    (c.in_ok-fetch-in-Leaves.ensures.rules volume left.serving (subst (λ (d : Client). Plays volume c.args.phase.now d) left.client plays) left.served_is)
