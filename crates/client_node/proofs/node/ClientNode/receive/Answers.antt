use Rattle.client_node.proofs.Turning.{own_name}
use Rattle.client_node.proofs.node.ClientNode.receive.Goals as goal

pub returns-in-Client-clause-rules : goal.returns-in-Client-clause-rules
returns-in-Client-clause-rules c = λ volume client event plays apart.
    own_name volume c.args.from c.args.bytes.now c.args.self.now c.empty_step-step.result c.empty_step-step.ensures.outs c.empty_step-step.ensures.lines c.in-Client.is client event plays
