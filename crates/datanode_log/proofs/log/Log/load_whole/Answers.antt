use Rattle.datanode_log.proofs.Loads.{loaded_at, loaded_sound, whole_log}
use Rattle.datanode_log.proofs.log.Log.load_whole.Goals as goal

pub invariant_of-log : goal.invariant_of-log
invariant_of-log g c =
    let old = g.D.Disk.history c.args.disk in
    let read = c.in-Ok in
    record { sound = loaded_sound old (g.D.Disk.history c.read_log.new.disk) read.found.gate read.found.spans.items c.read_log.ensures.moments read.ensures.synced (loaded_at old read.bytes.items read.found.gate read.found.spans.items read.ensures.bytes read.ensures.whole) }

pub returns-in-Ok-clause-whole : goal.returns-in-Ok-clause-whole
returns-in-Ok-clause-whole g c = whole_log c.in-Ok.bytes.items c.in-Ok.found.gate c.in-Ok.found.spans.items c.in-Ok.ensures.whole
