use Rattle.std.proofs.Common.{◌∙◌, [], ◌∷◌, sym}
use Rattle.printed_lines.specs.declared.line.Line.TheVariants as line
use Rattle.printed_lines.specs.declared.line.RequestRefusal.TheVariants as refusal
use Rattle.salus_model.specs.declared.trace.Request.TheVariants as request
use Rattle.client_rules.specs.Rules.{requested}
use Rattle.client_node.proofs.Opened.{refuses_restart, stays_with, takes_restart}
use Rattle.client_node.proofs.asking.restart.Goals as goal

pub returns-then-is_serving-clause-rules : goal.returns-then-is_serving-clause-rules
returns-then-is_serving-clause-rules c = λ volume client plays.
    stays_with volume c.args.phase.now c.args.step.now c.refuse.new.step client (line.Refused c.args.event refusal.Open ∷ []) (requested volume client c.args.event (request.Restart c.args.session)) plays
    (c.in_ok-refuse.ensures client) (refuses_restart volume c.args.phase.now c.args.event c.args.session (sym c.is_serving.ensures ∙ c.if-is_serving.true) client plays)

pub returns-clause-rules : goal.returns-clause-rules
returns-clause-rules c = λ volume client plays.
    takes_restart volume c.args.phase.now c.gather.new.phase c.args.step.now c.gather.new.step c.args.event c.args.session (sym c.is_serving.ensures ∙ c.if-is_serving.false) client plays
    (c.in_ok-gather.ensures.rules volume client plays)
