use Rattle.std.proofs.Common.{◌≡◌, ◌∙◌, refl, sym, subst}
use Rattle.disk_model.specs.declared.memory.MemDisk.{MemDisk}
use Rattle.disk_model.specs.Disk.{IsImage}
use Rattle.disk_model.specs.Told.{content_of, now_of}
use Rattle.datanode_log.proofs.Loads.{if_ok}
use Rattle.disk_witness.specs.Numbers.{number_of}
use Rattle.disk_witness.proofs.register.Register+MemDisk.restart.Goals as goal

pub returns-clause-number : goal.returns-clause-number
returns-clause-number c =
    let was = c.args.self in
    let content = content_of c.crash.new.self in
    let image = subst (λ (d : MemDisk). IsImage (now_of d) content) c.into_disk-disk.ensures c.crash.ensures.image in
    let number : number_of content ≡ was.number = was.held (now_of was.log.disk) _ refl c.requires content image in
    if_ok c.load.result (λ register. number_of content ≡ register.number) (λ register. register.number ≡ was.number) (λ register is. sym is ∙ number) c.load.ensures.number
