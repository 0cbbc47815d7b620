use Rattle.std.proofs.Common.{◌≡◌}
use Rattle.std.specs.List.{flat_map, range_with_len}
use Rattle.schedule_generator.specs.Generator.{state_of, round_events}
use Rattle.schedule_generator.proofs.generating.events.Given as goal

abbrev pub invariant-rounds : goal.invariant-rounds
invariant-rounds l = record {
  state : l.state ≡ state_of l.fn.seed l.counter;
  events : l.events ≡ flat_map (λ round. round_events (state_of l.fn.seed round)) (range_with_len 1 l.counter);
}
