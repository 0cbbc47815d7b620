use Rattle.std.proofs.Common.{sym, subst}
use Rattle.std.specs.Prelude.{OnOk}
use Rattle.salus_types.specs.Volume.{Shape}
use Rattle.disk_model.specs.Disk.{Now, EachImage}
use Rattle.holding_model.specs.Changing.{after_changes}
use Rattle.datanode_store.specs.Live.{MeansLive}
use Rattle.replica_node.specs.declared.planned.Planned.{Planned}
use Rattle.replica_node.specs.Planning.{changes_by}
use Rattle.replica_node.proofs.storing.store_planned.Goals as goal

pub returns-in-Staged-clause-durable : goal.returns-in-Staged-clause-durable
returns-in-Staged-clause-durable g c =
    subst (λ (p : Planned). OnOk c.store-in-Staged.result ((s : Shape) → Now (g.D.Disk.history c.store-in-Staged.new.checkpoint.store.log.disk.disk) (λ now. EachImage now (MeansLive (after_changes s c.args.checkpoint.now.store.held (changes_by c.args.session.now p))))))
    (sym c.in-Staged.is) c.store-in-Staged.ensures.durable
