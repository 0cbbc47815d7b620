use Rattle.std.proofs.Common.{take}
use Rattle.salus_types.specs.declared.records.Header.{Header}
use Rattle.merkle_region.specs.Tree.{IsAmong}
use Rattle.volume_restart.specs.Choosing.{ChoosesRight, NotLike}
use Rattle.volume_restart.proofs.choice.first_like.Given as goal

abbrev pub invariant-headers : goal.invariant-headers
invariant-headers l = ChoosesRight l.pool ((h : Header) → IsAmong h (take l.header-index l.headers) → NotLike l.pool l.like h)
