use Rattle.pipelined_commit.proofs.Numbers.{PutsBehind}
use Rattle.pipelined_commit.proofs.noted.place_of.Given as goal

abbrev pub invariant-notes : goal.invariant-notes
invariant-notes l = PutsBehind l.noted l.seq l.i
