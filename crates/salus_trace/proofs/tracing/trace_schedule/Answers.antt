use Rattle.std.proofs.Common.{List, sym, subst}
use Rattle.std.specs.List.{AllByRecursion}
use Rattle.salus_types.specs.Volume.{Shape}
use Rattle.schedule_text.specs.declared.schedule.Event.{Event}
use Rattle.schedule_text.specs.Limits.{IsEventWithin}
use Rattle.salus_trace.proofs.tracing.trace_schedule.Goals as goal

pub trace_events-requires-clause-kept : goal.trace_events-requires-clause-kept
trace_events-requires-clause-kept c = (c.args.schedule.volume, c.in_ok-world.ensures c.into_vec.result.items)

pub trace_events-requires-clause-within : goal.trace_events-requires-clause-within
trace_events-requires-clause-within c =
    let events = c.into_vec.result.items in
    let kept = c.in_ok-world.ensures events in
    subst (λ (s : Shape). AllByRecursion (IsEventWithin s) events) (sym kept.geometry)
    (subst (λ (l : List Event). AllByRecursion (IsEventWithin c.args.schedule.volume.geometry) l) (sym c.into_vec.ensures) c.requires.events)
