use Rattle.std.proofs.Common.{refl, subst}
use Rattle.disk_model.specs.declared.memory.MemDisk.{MemDisk}
use Rattle.disk_model.specs.Disk.{IsImage}
use Rattle.disk_model.specs.Told.{content_of, now_of}
use Rattle.disk_node.specs.Knowing.{seen_of}
use Rattle.disk_node.proofs.Fresh.{loaded_again}
use Rattle.disk_node.proofs.loading.restart.Goals as goal

pub returns-in-Ok-clause-loaded : goal.returns-in-Ok-clause-loaded
returns-in-Ok-clause-loaded c = λ shape name known fits.
    let image = content_of c.crash.new.self in
    let is = subst (λ (disk : MemDisk). IsImage (now_of disk) image) c.into_disk-disk.ensures c.crash.ensures.image in
    loaded_again shape name known (seen_of c.args.node) (seen_of c.in-Ok.new) (now_of c.args.node.checkpoint.store.log.disk.disk) image c.geometry-geometry.result c.name-name.result fits fits.images is
    c.in-Ok.ensures.holds c.geometry-geometry.ensures c.name-name.ensures c.in-Ok.ensures.fresh

pub load-requires-clause-loadable : goal.load-requires-clause-loadable
load-requires-clause-loadable c =
    let image = content_of c.crash.new.self in
    c.requires (now_of c.args.node.checkpoint.store.log.disk.disk) _ refl image (subst (λ (disk : MemDisk). IsImage (now_of disk) image) c.into_disk-disk.ensures c.crash.ensures.image)
