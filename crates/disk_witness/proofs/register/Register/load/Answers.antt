use Rattle.std.proofs.Common.{sym, subst}
use Rattle.datanode_log.specs.declared.log.Log.{Log}
use Rattle.disk_witness.proofs.Latest.{HeldAt, held_loaded, number_loaded, none_loaded}
use Rattle.disk_witness.proofs.register.Register.load.Goals as goal

pub invariant_of-result : goal.invariant_of-result
invariant_of-result g c =
    let loaded = c.in-Ok.loaded in
    let number = c.in-Some.number in
    let held = held_loaded (g.D.Disk.history c.args.disk) (g.D.Disk.history loaded.log.disk) loaded.bytes.items loaded.log.failed number c.in-Ok.ensures.moments c.in-Ok.ensures.synced c.in-Ok.ensures.bytes c.in-Some.ensures.found in
    record { held = subst (λ (log : Log g.row.D.Denot g.D.Disk). HeldAt (g.D.Disk.history log.disk) log.failed number) (sym c.into_log.ensures.log) held }

pub returns-in-Some-clause-number : goal.returns-in-Some-clause-number
returns-in-Some-clause-number g c = number_loaded (g.D.Disk.history c.args.disk) c.in-Ok.loaded.bytes.items c.in-Some.number c.in-Ok.ensures.bytes c.in-Some.ensures.found

pub returns-in-None-clause-refused : goal.returns-in-None-clause-refused
returns-in-None-clause-refused g c = λ named. none_loaded (g.D.Disk.history c.args.disk) c.in-Ok.loaded.bytes.items c.in-Ok.ensures.bytes (c.last_number.ensures.none c.in-None.is)
