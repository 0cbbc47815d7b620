use Rattle.std.proofs.Common.{◌≡◌, ◌-◌, ◌≤◌, [], Some, length, take}
use Rattle.salus_io.specs.Told.{Appends}
use Rattle.salus_io.proofs.whole.write_all.Given as goal

abbrev pub invariant-pieces : goal.invariant-pieces
invariant-pieces g l = record {
  within : l.at ≤ length l.bytes;
  taken : Appends (g.K.Sink.held l.initial.sink) (g.K.Sink.held l.sink) (take l.at l.bytes);
  counted : g.K.Sink.faults l.sink ≡ g.K.Sink.faults l.initial.sink;
  sure : g.K.Sink.failing l.initial.sink ≡ Some [] → g.K.Sink.failing l.sink ≡ Some [];
}

abbrev pub decreases-pieces : goal.decreases-pieces
decreases-pieces g l = length l.bytes - l.at
