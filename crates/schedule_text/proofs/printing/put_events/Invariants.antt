use Rattle.std.proofs.Common.{◌≡◌, ◌++◌, take}
use Rattle.std.specs.List.{flat_map}
use Rattle.schedule_text.specs.Printing.{event_line}
use Rattle.schedule_text.proofs.printing.put_events.Given as goal

abbrev pub invariant-events : goal.invariant-events
invariant-events l = l.out.items ≡ l.initial.out.items ++ flat_map event_line (take l.event-index l.event-items)
