use Rattle.std.proofs.Common.{◌≡◌, ◌++◌, take}
use Rattle.client_tag.specs.Spelling.{joined}
use Rattle.session_opening.proofs.lent.put_each_block.Given as goal

abbrev pub invariant-loop-block : goal.invariant-loop-block
invariant-loop-block l = l.out.items ≡ l.fn.out.items ++ joined (take l.block-index l.blocks)
