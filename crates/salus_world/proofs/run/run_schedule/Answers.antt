use Rattle.std.proofs.Common.{List, refl, sym, subst}
use Rattle.std.specs.List.{AllByRecursion}
use Rattle.salus_types.specs.Volume.{Shape}
use Rattle.schedule_text.specs.declared.schedule.Event.{Event}
use Rattle.schedule_text.specs.Limits.{IsEventWithin}
use Rattle.salus_world.specs.declared.ran.Ran.{Ran}
use Rattle.salus_world.specs.Runs.{Ends, formatted_origin}
use Rattle.salus_world.proofs.Finishing.{run_ends}
use Rattle.salus_world.proofs.run.run_schedule.Goals as goal

pub run_events-requires-clause-kept : goal.run_events-requires-clause-kept
run_events-requires-clause-kept c = (formatted_origin c.args.schedule.volume, c.args.schedule.volume, c.in_ok-world.ensures c.into_vec.result.items)

pub run_events-requires-clause-within : goal.run_events-requires-clause-within
run_events-requires-clause-within c =
    let events = c.into_vec.result.items in
    let kept = c.in_ok-world.ensures events in
    subst (λ (s : Shape). AllByRecursion (IsEventWithin s) events) (sym kept.geometry)
    (subst (λ (l : List Event). AllByRecursion (IsEventWithin c.args.schedule.volume.geometry) l) (sym c.into_vec.ensures) c.requires.events)

pub returns : goal.returns
returns c =
    let volume = c.args.schedule.volume in
    let events = c.into_vec.result.items in
    let w = c.run_events.new.world in
    let begun = c.in_ok-world.ensures events in
    let ran : Ran = record { lines = c.from_vec.result; messages = c.from_vec-2.result; nodes = w.nodes; client = w.client } in
    let ends : Ends volume events ran = run_ends volume events c.in_ok-world.world w ran begun (c.in_ok-run_events.ensures (formatted_origin volume) volume begun) c.from_vec.ensures c.from_vec-2.ensures refl refl in
    subst (λ (l : List Event). Ends volume l ran) c.into_vec.ensures ends
