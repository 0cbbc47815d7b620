use Rattle.std.proofs.Common.{◌≡◌, ◌∙◌, ◌++◌, ◌∷◌, [], None, Some, List, ap, sym, subst}
use Rattle.std.specs.List.{AllByRecursion}
use Rattle.salus_types.specs.declared.records.Record.{Record}
use Rattle.replica_rules.specs.Replicas.{all_kept_in_turn}
use Rattle.region_replica.specs.Turning.{IsKeptTaken}
use Rattle.region_replica.proofs.KeptTurns.{after_parts, turn-more, turn-all}
use Rattle.open_session.specs.Applying.{CanBeTaken}
use Rattle.open_session.proofs.Staying.{stays-same, stays-by, stays-then, taken-stays, turns-more}
use Rattle.open_session.proofs.turns.take_turns.Goals as goal

pub turns-init : goal.turns-init
turns-init c =
    let s = c.args.replica.now in
    let items : c.push.new.self.items ≡ c.args.first ∷ [] = c.in_ok-push.ensures.items ∙ ap (λ l. l ++ c.args.first ∷ []) c.new-parts.ensures.items in
    record {
      stays = stays-same s;
      turns = ap (λ (l : List Record). after_parts l (all_kept_in_turn s.shape s.replica)) (sym items);
      own = λ can records. subst (λ (l : List Record). AllByRecursion (CanBeTaken s) l) (sym items) (can, tt);
    }

pub returns-in_err-take_kept-clause-stays : goal.returns-in_err-take_kept-clause-stays
returns-in_err-take_kept-clause-stays c =
    stays-then c.args.replica.now c.turns.replica c.take_kept.new.self c.turns.invariant.stays (stays-by c.turns.replica c.take_kept.new.self c.in_err-take_kept.ensures.err)

pub returns-in-None-clause-stays : goal.returns-in-None-clause-stays
returns-in-None-clause-stays c =
    stays-then c.args.replica.now c.turns.replica c.take_kept.new.self c.turns.invariant.stays
    (taken-stays c.turns.replica c.take_kept.new.self c.in_ok-take_kept.field-0 c.in_ok-take_kept.ensures.taken)

pub returns-in-None-clause-taken : goal.returns-in-None-clause-taken
returns-in-None-clause-taken c =
    let s = c.args.replica.now in
    let taken : IsKeptTaken c.turns.replica c.take_kept.new.self None = subst (λ o. IsKeptTaken c.turns.replica c.take_kept.new.self o) c.in-None.is c.in_ok-take_kept.ensures.taken in
    record {
      applied = sym (turn-all (after_parts (c.args.first ∷ []) (all_kept_in_turn s.shape s.replica)) c.turns.parts.items c.turns.replica c.take_kept.new.self c.turns.invariant.turns taken.turn);
      own = c.turns.invariant.own;
    }

pub turns-preserved : goal.turns-preserved
turns-preserved c =
    let s = c.args.replica.now in
    let part = c.in-Some.rec in
    let whole = after_parts (c.args.first ∷ []) (all_kept_in_turn s.shape s.replica) in
    let next = c.take_kept.new.self in
    let taken : IsKeptTaken c.turns.replica next (Some part) = subst (λ o. IsKeptTaken c.turns.replica next o) c.in-Some.is c.in_ok-take_kept.ensures.taken in
    let items = c.in_ok-push-in-Some.ensures.items in
    record {
      stays = stays-then s c.turns.replica next c.turns.invariant.stays (taken-stays c.turns.replica next (Some part) taken);
      turns = turn-more whole c.turns.parts.items c.turns.replica next part c.turns.invariant.turns taken.turn
          ∙ ap (λ (l : List Record). after_parts l (all_kept_in_turn next.shape next.replica)) (sym items);
      own = λ can records. subst (λ (l : List Record). AllByRecursion (CanBeTaken s) l) (sym items)
          ((turns-more s c.turns.replica next c.turns.parts.items part whole c.turns.invariant.stays c.turns.invariant.turns (c.turns.invariant.own can) taken.turn).1 records);
    }

pub returns-in_err-push-in-Some-clause-stays : goal.returns-in_err-push-in-Some-clause-stays
returns-in_err-push-in-Some-clause-stays c =
    stays-then c.args.replica.now c.turns.replica c.take_kept.new.self c.turns.invariant.stays
    (taken-stays c.turns.replica c.take_kept.new.self c.in_ok-take_kept.field-0 c.in_ok-take_kept.ensures.taken)
