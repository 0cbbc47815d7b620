use Rattle.std.proofs.Common.{subst}
use Rattle.salus_types.specs.declared.records.Held.{Held}
use Rattle.disk_model.specs.Disk.{Now, EachImage}
use Rattle.datanode_store.specs.Live.{MeansLive}
use Rattle.holding_model.specs.Holding.{ToSession, held_after}
use Rattle.disk_node.proofs.formatting.open_with.Goals as goal

pub returns-in-Ok-switch-clause-durable : goal.returns-in-Ok-switch-clause-durable
returns-in-Ok-switch-clause-durable g c =
    subst (λ (held : Held). Now (g.D.Disk.history c.switch.new.self.store.log.disk.disk) (λ now. EachImage now (MeansLive (held_after held (ToSession 1))))) c.in-Ok.ensures.added c.in-Ok-switch.ensures.durable
