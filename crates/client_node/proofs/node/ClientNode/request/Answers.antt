use Rattle.client_node.specs.declared.node.ClientNode.{ClientNode}
use Rattle.client_node.proofs.Turning.{asked_step}
use Rattle.client_node.proofs.node.ClientNode.request.Goals as goal

pub returns-clause-rules : goal.returns-clause-rules
returns-clause-rules c = λ volume client plays.
    let after : ClientNode = record { alloc = c.args.self.now.alloc; phase = c.ask.new.phase } in
    asked_step volume client c.args.event c.args.request c.empty_step-step.result c.ask.new.step after c.empty_step-step.ensures.outs c.empty_step-step.ensures.lines
    (c.in_ok-ask.ensures.rules volume client plays)
