use Rattle.std.proofs.Common.{◌≡◌, false, [], ◌∷◌, subst, rules}
use Rattle.printed_lines.specs.declared.line.Line.TheVariants as line
use Rattle.printed_lines.specs.declared.line.RequestRefusal.TheVariants as refusal
use Rattle.client_rules.specs.Rules.{requested}
use Rattle.client_node.specs.declared.phase.Phase.{Phase}
use Rattle.client_node.specs.Phases.{serves_in, shape_in, Plays}
use Rattle.client_node.proofs.Turning.{asked_serving}
use Rattle.client_node.proofs.Away.{none_opened, plays_away}
use Rattle.client_node.proofs.Opened.{stays_with}
use Rattle.client_node.proofs.asking.ask_served.Goals as goal

pub returns-in_ok-request-in-Serving-clause-rules : goal.returns-in_ok-request-in-Serving-clause-rules
returns-in_ok-request-in-Serving-clause-rules c = λ volume client plays.
    asked_serving volume c.args.step.now c.request.new.step c.args.event c.args.request c.in-Serving.client c.request.new.self
    (λ s stands. c.in_ok-request-in-Serving.ensures.told volume s stands) client (subst (λ (p : Phase). Plays volume p client) c.in-Serving.is plays)

pub returns-in_ok-refuse-in-Closed-clause-rules : goal.returns-in_ok-refuse-in-Closed-clause-rules
returns-in_ok-refuse-in-Closed-clause-rules c = λ volume client plays.
    let away : serves_in c.args.phase.now ≡ false = search rules in
    stays_with volume c.args.phase.now c.args.step.now c.refuse.new.step client (line.Refused c.args.event refusal.Closed ∷ []) (requested volume client c.args.event c.args.request) plays
    (c.in_ok-refuse-in-Closed.ensures client)
    (none_opened volume (shape_in c.args.phase.now) client c.args.event c.args.request (plays_away volume c.args.phase.now away client plays) c.requires.served)
