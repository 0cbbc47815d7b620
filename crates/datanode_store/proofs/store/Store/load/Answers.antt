use Rattle.std.proofs.Common.{sym, subst}
use Rattle.datanode_log.specs.declared.log.Log.{Log}
use Rattle.datanode_store.proofs.Kept.{HoldsAt, loaded_means, loaded_holds, refused_means, written_log, written_file}
use Rattle.datanode_store.proofs.store.Store.load.Goals as goal

pub invariant_of-result : goal.invariant_of-result
invariant_of-result g c =
    let loaded = c.in-Ok.loaded in
    let held = c.in-Ok-read_held.held in
    let read = c.in-Ok.ensures in
    let holds = loaded_holds (g.D.Disk.history c.args.disk) (g.D.Disk.history loaded.log.disk) loaded.bytes.items held loaded.log.failed read.moments read.synced read.bytes read.whole c.in-Ok-read_held.ensures.held in
    record {
      means = subst (λ (log : Log g.row.D.Denot g.D.Disk). HoldsAt (g.D.Disk.history log.disk) log.failed held) (sym c.into_log.ensures.log) holds;
      ranges = c.in-Ok-read_held.ensures.ranges;
    }

pub returns-in-Ok-read_held-clause-held : goal.returns-in-Ok-read_held-clause-held
returns-in-Ok-read_held-clause-held g c =
    loaded_means (g.D.Disk.history c.args.disk) c.in-Ok.loaded.bytes.items c.in-Ok-read_held.held c.in-Ok.ensures.bytes c.in-Ok.ensures.whole c.in-Ok-read_held.ensures.held

pub returns-in-Err-read_held-clause-refused : goal.returns-in-Err-read_held-clause-refused
returns-in-Err-read_held-clause-refused g c =
    refused_means (g.D.Disk.history c.args.disk) c.in-Ok.loaded.bytes.items c.in-Err-read_held.error c.in-Ok.ensures.bytes c.in-Ok.ensures.whole c.in-Err-read_held.ensures.refused

pub returns-in-Err-clause-written : goal.returns-in-Err-clause-written
returns-in-Err-clause-written g c = written_log (g.D.Disk.history c.args.disk) c.in-Err.field-0.error c.of_log.result c.of_log.ensures c.in-Err.ensures.refused

pub returns-in-Err-read_held-clause-written : goal.returns-in-Err-read_held-clause-written
returns-in-Err-read_held-clause-written g c =
    written_file (g.D.Disk.history c.args.disk) c.in-Err-read_held.error (refused_means (g.D.Disk.history c.args.disk) c.in-Ok.loaded.bytes.items c.in-Err-read_held.error c.in-Ok.ensures.bytes c.in-Ok.ensures.whole c.in-Err-read_held.ensures.refused)
