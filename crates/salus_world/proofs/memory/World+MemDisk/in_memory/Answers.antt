use Rattle.std.proofs.Common.{◌≡◌, refl, ap, subst}
use Rattle.salus_types.specs.declared.names.NodeName.{NodeName}
use Rattle.run_rules.specs.Running.{formatted}
use Rattle.run_rules.specs.Knowing.{fresh}
use Rattle.disk_node.specs.Fitting.{held_in}
use Rattle.salus_world.specs.Runs.{formatted_origin}
use Rattle.salus_world.proofs.Seats.{at_name}
use Rattle.salus_world.proofs.Refused.{fits_there, told_in}
use Rattle.salus_world.proofs.memory.World+MemDisk.in_memory.Goals as goal

pub returns-in-Ok : goal.returns-in-Ok
returns-in-Ok c = λ all.
    let volume = c.args.volume.now in
    let shape = volume.geometry in
    let world = c.in-Ok.world in
    c.in-Ok.ensures.kept (formatted_origin volume) all (record {
      client = refl;
      held = λ name of node at.
          let one = at_name shape volume.key world.nodes.items c.in-Ok.ensures.formatted name of node at in
          told_in (λ disk P here. here) (held_in node ≡ formatted volume name) node (fits_there shape name (fresh shape name.region (held_in node)) node one.fits) one.holds;
      sure = λ surely. c.in-Ok.ensures.sure c.in_ok-disks.ensures.sure;
    })
