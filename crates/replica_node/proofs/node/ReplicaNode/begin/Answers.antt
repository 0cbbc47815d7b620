use Rattle.replica_node.proofs.Carrying.{loaded_at}
use Rattle.replica_node.proofs.node.ReplicaNode.begin.Goals as goal

pub returns-in-Ok-clause-state : goal.returns-in-Ok-clause-state
returns-in-Ok-clause-state g c = loaded_at c.args.geometry c.args.name.region c.held.result.now c.args.checkpoint.store.held c.in-Ok.session c.held.ensures.held c.in-Ok.ensures.stands
