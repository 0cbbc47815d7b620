use Rattle.holding_model.specs.Changing.{SwitchesTo, changed}
use Rattle.replica_rules.specs.Nodes.{loaded_as}
use Rattle.replica_node.proofs.Saying.{opened_stands, opened_serves}
use Rattle.replica_node.proofs.opening.open_later.Goals as goal

pub returns-in-Ok-clause-stands : goal.returns-in-Ok-clause-stands
returns-in-Ok-clause-stands c = opened_stands c.args.geometry.now c.args.name.region c.in-Ok.opened (loaded_as c.args.geometry.now c.args.name.region (changed c.args.geometry.now c.args.held.now (SwitchesTo c.args.session))).memory (c.in-Ok.ensures.switches c.requires)

pub returns-in-Ok-clause-serves : goal.returns-in-Ok-clause-serves
returns-in-Ok-clause-serves c = opened_serves c.args.geometry.now c.args.name.region (changed c.args.geometry.now c.args.held.now (SwitchesTo c.args.session)) c.in-Ok.opened (c.in-Ok.ensures.switches c.requires)
