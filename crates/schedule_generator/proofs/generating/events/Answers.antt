use Rattle.std.proofs.Common.{◌≡◌, ◌∙◌, ◌+◌, ◌++◌, ◌∷◌, [], refl, sym, ap, ap₂, rules, ℕ, List, arith, subst}
use Rattle.schedule_text.specs.declared.schedule.Event.{Event}
use Rattle.schedule_text.specs.declared.schedule.Event.TheVariants as event
use Rattle.std.specs.List.{flat_map, range_with_len}
use Rattle.schedule_generator.specs.Generator.{next_state, state_of, round_events, generated_events}
use Rattle.schedule_generator.proofs.Rounds.{rounds_more, state_more}
use Rattle.schedule_generator.proofs.generating.events.Goals as goal

pub rounds-init : goal.rounds-init
unfolding state_of
rounds-init c = record { state = refl; events = c.new-events.ensures }

pub rounds-preserved : goal.rounds-preserved
rounds-preserved c =
    let before = c.rounds.invariant in
    let state : c.next_state-state.result ≡ state_of c.args.seed (c.rounds.counter + 1) =
    c.next_state-state.ensures ∙ (ap next_state before.state ∙ sym (state_more c.args.seed c.rounds.counter)) in
    record {
      state = state;
      events =
          c.in_ok-add_round.ensures
          ∙ (ap₂ (λ (es : List Event) (x : ℕ). es ++ round_events x) before.events state
          ∙ sym (rounds_more (λ round. round_events (state_of c.args.seed round)) c.rounds.counter));
    }

pub returns : goal.returns
unfolding generated_events
returns c =
    let all : c.rounds.counter ≡ c.args.rounds = omega arith in
    c.in_ok-push.ensures.ok
    ∙ ap (λ (es : List Event). es ++ event.Barrier ∷ [])
    (c.rounds.invariant.events ∙ ap (λ (n : ℕ). flat_map (λ round. round_events (state_of c.args.seed round)) (range_with_len 1 n)) all)
