use Rattle.std.proofs.Common.{◌≡◌, ◌∙◌, ◌+◌, ◌++◌, ◌∷◌, List, refl, sym, ap, subst, arith}
use Rattle.std.proofs.lemmas.List.{length_push}
use Rattle.salus_types.specs.Volume.{Shape}
use Rattle.schedule_text.specs.declared.schedule.Event.{Event}
use Rattle.schedule_text.specs.Limits.{IsEventWithin}
use Rattle.run_course.specs.Course.{no_course}
use Rattle.salus_world.proofs.Finishing.{next_all, next_below, next_at}
use Rattle.salus_world.proofs.Mailing.{taken_front}
use Rattle.salus_trace.proofs.tracing.trace_events.Goals as goal

pub events-init : goal.events-init
events-init c = record { numbered = refl; before = λ volume kept. (no_course, kept) }

pub trace_event-requires-clause-kept : goal.trace_event-requires-clause-kept
trace_event-requires-clause-kept c =
    let all = c.args.events.items in
    let done = c.events.yielded in
    let e = c.in-Some.event in
    let split : all ≡ done ++ e ∷ _ = sym c.into_iter-event-iterator.ensures.into_iter_gives.0 ∙ (taken_front _ _ _ c.events.yielded_by ∙ ap (λ (l : List Event). done ++ l) c.in-Some.ensures.steps.0) in
    let k = c.requires.kept in
    (k.0, all, next_at all done _ e split c.events.number c.events.invariant.numbered, c.events.invariant.before k.0 k.1)

pub trace_event-requires-clause-low : goal.trace_event-requires-clause-low
trace_event-requires-clause-low c =
    let all = c.args.events.items in
    let done = c.events.yielded in
    let e = c.in-Some.event in
    let split : all ≡ done ++ e ∷ _ = sym c.into_iter-event-iterator.ensures.into_iter_gives.0 ∙ (taken_front _ _ _ c.events.yielded_by ∙ ap (λ (l : List Event). done ++ l) c.in-Some.ensures.steps.0) in
    let low = next_below all done _ e split in
    omega (arith, low, c.requires.few, c.events.invariant.numbered)

pub trace_event-requires-clause-within : goal.trace_event-requires-clause-within
trace_event-requires-clause-within c =
    let all = c.args.events.items in
    let done = c.events.yielded in
    let e = c.in-Some.event in
    let split : all ≡ done ++ e ∷ _ = sym c.into_iter-event-iterator.ensures.into_iter_gives.0 ∙ (taken_front _ _ _ c.events.yielded_by ∙ ap (λ (l : List Event). done ++ l) c.in-Some.ensures.steps.0) in
    let k = c.requires.kept in
    let now = c.events.invariant.before k.0 k.1 in
    subst (λ (s : Shape). IsEventWithin s e) (k.1.geometry ∙ sym now.1.geometry) (next_all all done _ e split (IsEventWithin c.args.world.now.geometry) c.requires.within)

pub events-preserved : goal.events-preserved
events-preserved c =
    let all = c.args.events.items in
    let done = c.events.yielded in
    let e = c.in-Some.event in
    let split : all ≡ done ++ e ∷ _ = sym c.into_iter-event-iterator.ensures.into_iter_gives.0 ∙ (taken_front _ _ _ c.events.yielded_by ∙ ap (λ (l : List Event). done ++ l) c.in-Some.ensures.steps.0) in
    record {
      numbered = ap (λ k. k + 1) c.events.invariant.numbered ∙ ap (λ k. k + 1) (sym (length_push done e));
      before = λ volume kept. c.in_ok-trace_event.ensures volume all (next_at all done _ e split c.events.number c.events.invariant.numbered) (c.events.invariant.before volume kept);
    }
