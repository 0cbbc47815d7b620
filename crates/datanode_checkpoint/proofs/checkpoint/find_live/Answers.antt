use Rattle.datanode_checkpoint.proofs.Living.{unmarked_refused}
use Rattle.datanode_checkpoint.proofs.checkpoint.find_live.Goals as goal

pub returns-in-Ok-None-clause-refused : goal.returns-in-Ok-None-clause-refused
returns-in-Ok-None-clause-refused g c =
    unmarked_refused (g.D.Disk.history c.args.disk.now) (g.D.Disk.history c.read_live.new.disk) c.read_live.ensures.moments c.in-Ok-None.ensures.synced (c.in-Ok-None.ensures.unmarked c.in-Ok-None.field-0-is)
