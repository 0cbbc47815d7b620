use Rattle.std.proofs.Common.{refl}
use Rattle.replica_node.specs.declared.planned.Planned.TheVariants as planned
use Rattle.replica_node.proofs.Saying.{switched_planned}
use Rattle.replica_node.proofs.opening.switch.Goals as goal

pub returns : goal.returns
returns c =
    switched_planned c.args.geometry.now c.args.name.region c.args.held.now c.args.session.now c.in_ok-opened.opened c.args.number (planned.Switched c.args.number c.in_ok-outs.outs) c.in_ok-outs.outs refl
    (record { memory = c.in_ok-opened.ensures.stands; outs = c.in_ok-outs.ensures; changes = refl }) c.in_ok-opened.ensures.serves
