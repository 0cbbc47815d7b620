-- Each rule of an open session leaves whether all of it counts, and folds only where it does.
use Rattle.std.proofs.Common.{◌≡◌, ℕ, ◌==◌, ◌&&◌, Bool, true, List, [], ◌∷◌, ◌++◌, map, refl}
use Rattle.std.specs.List.{AllByRecursion}
use Rattle.salus_types.specs.Volume.{Shape}
use Rattle.salus_types.specs.declared.names.NodeName.{NodeName}
use Rattle.salus_types.specs.declared.records.Record.{Record}
use Rattle.salus_message.specs.declared.small.Prepared.{Prepared}
use Rattle.salus_message.specs.declared.small.Committed.{Committed}
use Rattle.salus_message.specs.declared.small.Ask.{Ask}
use Rattle.salus_message.specs.declared.small.Dump.{Dump}
use Rattle.holding_model.specs.Changing.{Change, AddsPart, AddsBase, SwitchesTo, FoldsTo}
use Rattle.replica_rules.specs.Voting.{with_vote, with_claim}
use Rattle.replica_rules.specs.Replicas.{Replica, PartAnswer, Foreign, Known, Early, Full, Differs, Next, PartTaken, take_part, after_part, all_kept_in_turn}
use Rattle.replica_rules.specs.Nodes.{Memory}
use Rattle.replica_rules.specs.Rules.{Turn, quiet, then_claims, part_answered, by_part, by_ask, dumped, by_dump, with_leader, by_vote, fold_number, folds, after_fold, then_fold, by_claim, by_tick}
use Rattle.list_lemmas.proofs.Each.{either_way, all_each, all_map}
use Rattle.list_lemmas.proofs.Tests.{way_with, and_left}

abbrev pub MayFold : Bool → Change → Type 0
MayFold whole (AddsPart rec) = Unit {0}
MayFold whole (AddsBase base) = Unit {0}
MayFold whole (SwitchesTo e) = Unit {0}
MayFold whole (FoldsTo n) = whole ≡ true

pub record Keeps (m : Memory) (turn : Turn) : Type 0 where
  pub whole : turn.memory.whole ≡ m.whole
  pub folds : AllByRecursion (MayFold m.whole) turn.changes

module _ (shape : Shape) (m : Memory) where
  calm_keeps : Keeps m (quiet m)
  calm_keeps = record { whole = refl; folds = tt }

  parts_keep : (parts : List Record) → AllByRecursion (MayFold m.whole) (map (λ rec. AddsPart rec) parts)
  parts_keep parts = all_map (MayFold m.whole) (λ rec. AddsPart rec) parts (all_each (λ rec. MayFold m.whole (AddsPart rec)) parts (λ rec. tt))

  answered_keeps : (g : ℕ) (rec : Record) (r : Replica) (answer : PartAnswer) → Keeps m (part_answered shape g m rec r answer)
  answered_keeps g rec r Next = record { whole = refl; folds = parts_keep (after_part rec (all_kept_in_turn shape r)).parts }
  answered_keeps g rec r Known = record { whole = refl; folds = tt }
  answered_keeps g rec r Early = record { whole = refl; folds = tt }
  answered_keeps g rec r Foreign = record { whole = refl; folds = tt }
  answered_keeps g rec r Full = record { whole = refl; folds = tt }
  answered_keeps g rec r (Differs root got) = record { whole = refl; folds = tt }

  pub part_keeps : (g : ℕ) (rec : Record) → Keeps m (by_part shape g rec m)
  unfolding by_part
  part_keeps g rec =
      let taken : PartTaken = take_part shape g m.replica rec in
      let turn : Keeps m (part_answered shape g m rec taken.replica taken.answer) = answered_keeps g rec taken.replica taken.answer in
      record { whole = turn.whole; folds = turn.folds }

  pub ask_keeps : (g : ℕ) (ask : Ask) → Keeps m (by_ask shape g ask m)
  unfolding by_ask
  ask_keeps g ask = record { whole = refl; folds = tt }

  pub dump_keeps : (g : ℕ) (dump : Dump) → Keeps m (by_dump g dump m)
  unfolding by_dump
  dump_keeps g dump = either_way ((dump.session == m.replica.session) && (dump.region == g)) (dumped g m) (quiet m) (Keeps m) (record { whole = refl; folds = tt }) calm_keeps

  pub vote_keeps : (name : NodeName) (vote : Prepared) → Keeps m (by_vote shape name vote m)
  unfolding by_vote
  vote_keeps name vote =
      either_way ((vote.session == m.replica.session) && (vote.region == name.region)) (then_claims shape (quiet (with_leader m (record m.leader { votes = with_vote m.leader.votes name vote.seq vote.root })))) (quiet m) (Keeps m)
      (record { whole = refl; folds = tt }) calm_keeps

  pub claim_keeps : (name : NodeName) (claim : Committed) → Keeps m (by_claim shape name claim m)
  unfolding by_claim
  claim_keeps name claim =
      let turn : Turn = then_claims shape (quiet (with_leader m (record m.leader { claims = with_claim m.leader.claims name claim.front }))) in
      either_way (claim.session == m.replica.session) (then_fold shape turn) (quiet m) (Keeps m)
      (way_with (folds shape turn.memory) (record { memory = after_fold turn.memory (fold_number shape turn.memory); outs = turn.outs; changes = turn.changes ++ FoldsTo (fold_number shape turn.memory) ∷ [] }) turn (Keeps m)
      (λ yes. record { whole = refl; folds = (and_left m.whole _ yes, tt) }) (λ no. record { whole = refl; folds = tt })) calm_keeps

  pub tick_keeps : Keeps m (by_tick shape m)
  unfolding by_tick
  tick_keeps = record { whole = refl; folds = tt }
