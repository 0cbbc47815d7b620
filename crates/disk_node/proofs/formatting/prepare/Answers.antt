use Rattle.std.proofs.Common.{◌≡◌, [], ◌∷◌, sym, subst}
use Rattle.disk_model.specs.Disk.{History, Now, EachImage}
use Rattle.datanode_store.specs.Causes.{IsOutside}
use Rattle.datanode_store.specs.Live.{MeansLive}
use Rattle.holding_model.specs.Holding.{nothing_held}
use Rattle.disk_node.specs.Opened.{opened_with}
use Rattle.disk_node.proofs.Formatted.{told_back, empty_images, empty_read, empty_refused, opened_means}
use Rattle.disk_node.proofs.formatting.prepare.Goals as goal

pub returns-in-Ok-open_with-clause-means : goal.returns-in-Ok-open_with-clause-means
returns-in-Ok-open_with-clause-means g c =
    let e = c.in-Ok-load.ensures in
    let held = c.in-Ok-load.checkpoint.store.held in
    let base = c.args.base.now in
    let before : History = g.D.Disk.history c.format.new.disk in
    let mid : History = g.D.Disk.history c.in-Ok-load.checkpoint.store.log.disk.disk in
    let after : History = g.D.Disk.history c.open_with.new.checkpoint.store.log.disk.disk in
    let read : Now mid (λ m. held ≡ nothing_held) =
    told_back before mid (held ≡ nothing_held) (e.any_moment (nothing_held ∷ []) (empty_images before c.in-Ok.ensures.formatted)).untold (empty_read before held c.in-Ok.ensures.formatted e.held) in
    subst (λ (disk : _). Now (g.D.Disk.history disk) (λ now. EachImage now (MeansLive (opened_with base)))) (sym c.into_disk.ensures)
    (opened_means after held base (told_back mid after (held ≡ nothing_held) c.in-Ok-open_with.ensures.untold read) c.in-Ok-open_with.ensures.durable)

pub returns-in-Err-load-clause-only : goal.returns-in-Err-load-clause-only
returns-in-Err-load-clause-only g c =
    let e = c.in-Err-load.ensures in
    let before : History = g.D.Disk.history c.format.new.disk in
    told_back before (g.D.Disk.history c.in-Err-load.refused.disk) (IsOutside c.in-Err-load.refused.error) (e.any_moment (nothing_held ∷ []) (empty_images before c.in-Ok.ensures.formatted)).untold
    (empty_refused before c.in-Err-load.refused.error c.in-Ok.ensures.formatted e.written)
