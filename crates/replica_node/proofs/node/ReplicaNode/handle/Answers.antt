use Rattle.replica_node.proofs.node.ReplicaNode.handle.Goals as goal

pub returns-in-Ok-clause-rules : goal.returns-in-Ok-clause-rules
returns-in-Ok-clause-rules g c = λ state is speaks. c.in-Ok.ensures.rules state is

pub returns-in-Ok-clause-any_moment : goal.returns-in-Ok-clause-any_moment
returns-in-Ok-clause-any_moment g c = λ state is speaks. c.receive.ensures.any_moment state is

pub returns-in-Err-clause-any_moment : goal.returns-in-Err-clause-any_moment
returns-in-Err-clause-any_moment g c = λ state is speaks. c.receive.ensures.any_moment state is
