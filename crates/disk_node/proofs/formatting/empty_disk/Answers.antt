use Rattle.std.proofs.Common.{sym, subst}
use Rattle.disk_model.specs.Disk.{Moment}
use Rattle.datanode_store.specs.Live.{MeansLive}
use Rattle.holding_model.specs.Holding.{nothing_held}
use Rattle.disk_node.proofs.Uniform.{empty_means}
use Rattle.disk_node.proofs.formatting.empty_disk.Goals as goal

pub returns-in-Ok-clause-means : goal.returns-in-Ok-clause-means
returns-in-Ok-clause-means c = subst (λ (m : Moment). MeansLive nothing_held m.seen) (sym c.in-Ok.ensures.formatted) empty_means
