use Rattle.std.proofs.Common.{◌≡◌, ◌++◌, take}
use Rattle.client_tag.specs.Spelling.{joined}
use Rattle.salus_message.proofs.replies.put_each_digest.Given as goal

abbrev pub invariant-loop-digest : goal.invariant-loop-digest
invariant-loop-digest l = l.out.items ≡ l.fn.out.items ++ joined (take l.digest-index l.path)
