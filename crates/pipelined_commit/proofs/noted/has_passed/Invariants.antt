use Rattle.std.proofs.Common.{◌≡◌, take, false}
use Rattle.pipelined_commit.specs.Noting.{has_passed}
use Rattle.pipelined_commit.proofs.noted.has_passed.Given as goal

abbrev pub invariant-notes : goal.invariant-notes
invariant-notes l = has_passed (take l.note-index l.noted) l.seq ≡ false
