use Rattle.std.proofs.Common.{◌≡◌, filter, take, nat_lt}
use Rattle.datanode_checkpoint.proofs.folding.copy_later.Given as goal

abbrev pub invariant-bases : goal.invariant-bases
invariant-bases l = l.bases ≡ filter (λ base. nat_lt l.held.session base.rec.header.session) (take l.base-index l.held.bases)
