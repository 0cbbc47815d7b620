use Rattle.std.proofs.Common.{◌≡◌, length, [], ◌∷◌}
use Rattle.std.specs.List.{AllByRecursion}
use Rattle.replica_rules.specs.Replicas.{all_kept_in_turn}
use Rattle.region_replica.proofs.KeptTurns.{after_parts}
use Rattle.open_session.specs.Kept.{StaysOwn, KeepsRecords}
use Rattle.open_session.specs.Applying.{CanBeTaken}
use Rattle.open_session.proofs.turns.take_turns.Given as goal

abbrev pub invariant-turns : goal.invariant-turns
invariant-turns l = record {
  stays : StaysOwn l.initial.replica l.replica;
  turns : after_parts (l.fn.first ∷ []) (all_kept_in_turn l.initial.replica.shape l.initial.replica.replica) ≡ after_parts l.parts.items (all_kept_in_turn l.replica.shape l.replica.replica);
  own : CanBeTaken l.initial.replica l.fn.first → KeepsRecords l.initial.replica → AllByRecursion (CanBeTaken l.initial.replica) l.parts.items;
}

abbrev pub decreases-turns : goal.decreases-turns
decreases-turns l = length l.replica.replica.early
