use Rattle.std.proofs.Common.{◌∙◌, ◌++◌, List, ap, map, subst}
use Rattle.std.specs.Prelude.{OnOk}
use Rattle.salus_types.specs.Volume.{Shape}
use Rattle.disk_model.specs.Disk.{Now, EachImage}
use Rattle.holding_model.specs.Changing.{Change, AddsPart, after_changes}
use Rattle.datanode_store.specs.Live.{MeansLive}
use Rattle.node_storage.specs.Storing.{changes_of}
use Rattle.open_session.specs.Turning.{fold_of}
use Rattle.replica_node.proofs.Starting.{starts}
use Rattle.replica_node.proofs.storing.store_parts.Goals as goal

pub returns-in-Ok-clause-durable : goal.returns-in-Ok-clause-durable
returns-in-Ok-clause-durable g c =
    subst (λ (l : List Change). OnOk c.store.result ((s : Shape) → Now (g.D.Disk.history c.store.new.checkpoint.store.log.disk.disk) (λ now. EachImage now (MeansLive (after_changes s c.args.checkpoint.now.store.held l)))))
    (ap changes_of c.as_slice.ensures.value ∙ c.in-Ok.ensures) c.store.ensures.durable

pub returns-in-Err-clause-any_moment : goal.returns-in-Err-clause-any_moment
returns-in-Err-clause-any_moment g c = λ shape.
    let checkpoint = c.args.checkpoint.now in
    starts shape checkpoint.store.held (map (λ rec. AddsPart rec) c.args.parts.now ++ fold_of c.args.turn.fold) (g.D.Disk.history checkpoint.store.log.disk.disk) (c.held-held.ensures.means c.requires.working)
