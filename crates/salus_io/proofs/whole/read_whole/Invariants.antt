use Rattle.std.proofs.Common.{◌≡◌, ◌+◌, ◌-◌, ◌<◌, [], Some, vec_len}
use Rattle.salus_io.specs.Told.{Consumes}
use Rattle.salus_io.proofs.whole.read_whole.Given as goal

abbrev pub invariant-pieces : goal.invariant-pieces
invariant-pieces g l = record {
  room : 0 < vec_len l.buffer;
  taken : Consumes (g.S.Source.left l.initial.source) (g.S.Source.left l.source) l.text.items;
  counted : g.S.Source.faults l.source ≡ g.S.Source.faults l.initial.source;
  sure : g.S.Source.failing l.initial.source ≡ Some [] → g.S.Source.failing l.source ≡ Some [];
}

abbrev pub decreases-pieces : goal.decreases-pieces
decreases-pieces g l = (l.limit + 1) - vec_len l.text
