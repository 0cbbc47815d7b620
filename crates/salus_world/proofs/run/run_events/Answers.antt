use Rattle.salus_types.specs.Volume.{Shape}
use Rattle.schedule_text.specs.Limits.{IsEventWithin}
use Rattle.client_node.specs.Standing.{newest_of}
use Rattle.std.proofs.Common.{◌≡◌, ◌∙◌, ◌+◌, ◌<◌, ℕ, ◌++◌, ◌∷◌, length, List, refl, sym, ap, subst, arith}
use Rattle.std.proofs.lemmas.List.{length_push}
use Rattle.schedule_text.specs.declared.schedule.Event.{Event}
use Rattle.salus_world.proofs.Finishing.{none_run, one_run, next_all, next_below, next_at}
use Rattle.salus_world.specs.Kept.{HasRun}
use Rattle.salus_world.proofs.Mailing.{taken_front, all_given}
use Rattle.salus_world.proofs.run.run_events.Goals as goal

pub events-init : goal.events-init
events-init c = record { numbered = refl; run = λ origin volume kept. none_run origin volume c.args.events.items c.args.world.now kept }

pub events-preserved : goal.events-preserved
events-preserved c =
    let all = c.args.events.items in
    let done = c.events.yielded in
    let e = c.in-Some.event in
    let split : all ≡ done ++ e ∷ _ = sym c.into_iter-event-iterator.ensures.into_iter_gives.0 ∙ (taken_front _ _ _ c.events.yielded_by ∙ ap (λ (l : List Event). done ++ l) c.in-Some.ensures.steps.0) in
    let low = next_below all done _ e split in
    record {
      numbered = ap (λ k. k + 1) c.events.invariant.numbered ∙ ap (λ k. k + 1) (sym (length_push done e));
      run = λ origin volume kept. one_run origin volume all done e c.events.number c.args.world.now c.events.world c.step.new.self (c.events.invariant.run origin volume kept) c.events.invariant.numbered (omega (arith, low, c.requires.few, c.events.invariant.numbered))
          (next_at all done _ e split c.events.number c.events.invariant.numbered) c.in_ok-step.ensures.does c.in_ok-step.ensures.exact;
    }

pub returns : goal.returns
returns c = λ origin volume kept.
    let none = (rw c.in-None.is at c.next.ensures.steps).0 in
    let left : length c.events.event-iterator.rest.items ≡ 0 = sym c.events.event-iterator.rest.ok.0 ∙ none in
    let given = all_given _ _ _ (taken_front _ _ _ c.events.yielded_by) left ∙ c.into_iter-event-iterator.ensures.into_iter_gives.0 in
    subst (λ (l : List Event). HasRun origin volume c.args.events.items l c.args.world.now c.events.world) given (c.events.invariant.run origin volume kept)

pub step-requires-clause-kept : goal.step-requires-clause-kept
step-requires-clause-kept c =
    let k = c.requires.kept in
    let r = c.events.invariant.run k.0 k.1 k.2 in
    (k.0, k.1, c.args.events.items, length c.events.yielded + 1, length c.events.yielded + 1, r.course, r.kept)

pub step-requires-clause-newest : goal.step-requires-clause-newest
step-requires-clause-newest c =
    let k = c.requires.kept in
    let r = c.events.invariant.run k.0 k.1 k.2 in
    subst (λ (n : ℕ). newest_of c.events.world.client < n) (sym c.events.invariant.numbered) r.kept.newest

pub step-requires-clause-within : goal.step-requires-clause-within
step-requires-clause-within c =
    let all = c.args.events.items in
    let done = c.events.yielded in
    let e = c.in-Some.event in
    let split : all ≡ done ++ e ∷ _ = sym c.into_iter-event-iterator.ensures.into_iter_gives.0 ∙ (taken_front _ _ _ c.events.yielded_by ∙ ap (λ (l : List Event). done ++ l) c.in-Some.ensures.steps.0) in
    let k = c.requires.kept in
    let r = c.events.invariant.run k.0 k.1 k.2 in
    subst (λ (s : Shape). IsEventWithin s e) (k.2.geometry ∙ sym r.kept.geometry) (next_all all done _ e split (IsEventWithin c.args.world.now.geometry) c.requires.within)
