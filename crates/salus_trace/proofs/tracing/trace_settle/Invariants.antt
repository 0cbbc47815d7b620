use Rattle.std.proofs.Common.{List}
use Rattle.schedule_text.specs.declared.schedule.Volume.{Volume}
use Rattle.schedule_text.specs.declared.schedule.Event.{Event}
use Rattle.salus_trace.specs.Before.{IsBefore}
use Rattle.salus_trace.proofs.tracing.trace_settle.Given as goal

abbrev pub invariant-deliveries : goal.invariant-deliveries
invariant-deliveries l = (volume : Volume) (all : List Event) → IsBefore volume all l.number l.fn.world → IsBefore volume all l.number l.world
