use Rattle.std.proofs.Common.{ℕ, Bool, sym, subst}
use Rattle.disk_model.specs.Disk.{History}
use Rattle.disk_model.specs.Told.{moments_of}
use Rattle.datanode_checkpoint.proofs.Living.{HeadAt}
use Rattle.datanode_checkpoint.proofs.checkpoint.Checkpoint+MemDisk.fail_at.Goals as goal

pub invariant_of-self : goal.invariant_of-self
invariant_of-self c =
    let was = c.args.self.now.store in
    let now = c.fail_at.new.self in
    let told = c.fail_at.ensures in
    let moved = subst (λ (h : History). HeadAt h was.log.failed was.log.disk.lane) (sym told.moments) c.args.self.now.head in
    let there = subst (λ (l : ℕ). HeadAt (moments_of now.log.disk.disk) was.log.failed l) (sym told.lane) moved in
    record { head = subst (λ (f : Bool). HeadAt (moments_of now.log.disk.disk) f now.log.disk.lane) (sym told.failed) there }
