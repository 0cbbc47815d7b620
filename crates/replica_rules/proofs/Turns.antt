-- The rules of an open session send votes, claims, answers and dumps, and they add parts and fold; so a fact on handlings is
-- proved by the rules of gathering, staging and switching alone.
use Rattle.std.proofs.Common.{ℕ, ◌==◌, ◌&&◌, nat_lt, if◌then◌else◌, List, [], ◌∷◌, ◌++◌, map, Option, None, Some}
use Rattle.std.specs.Prelude.{filter, flat_map, Result, Ok, Err}
use Rattle.std.specs.List.{AllByRecursion, list_any}
use Rattle.salus_types.specs.Volume.{Shape}
use Rattle.salus_types.specs.declared.names.NodeName.{NodeName}
use Rattle.salus_types.specs.declared.names.Sender.{Sender}
use Rattle.salus_types.specs.declared.names.Sender.TheVariants as sender
use Rattle.salus_types.specs.declared.records.Record.{Record}
use Rattle.salus_types.specs.declared.records.Base.{Base}
use Rattle.salus_message.specs.declared.small.Prepared.{Prepared}
use Rattle.salus_message.specs.declared.small.Committed.{Committed}
use Rattle.salus_message.specs.declared.small.Ask.{Ask}
use Rattle.salus_message.specs.declared.small.Dump.{Dump}
use Rattle.salus_message.specs.declared.carried.Dumped.{Dumped}
use Rattle.salus_message.specs.declared.replies.Answer.{Answer}
use Rattle.salus_message.specs.declared.wire.Message.{Message}
use Rattle.salus_message.specs.declared.wire.Message.TheVariants as message
use Rattle.salus_message.specs.declared.wire.MessageError.{MessageError}
use Rattle.salus_message.specs.Reading.{message_at}
use Rattle.volume_model.specs.Groups.{group_of, all_nodes}
use Rattle.replica_rules.specs.Views.{led_by}
use Rattle.replica_rules.specs.Replicas.{Replica, PartAnswer, Foreign, Known, Early, Full, Differs, Next, PartTaken, take_part, after_part, all_kept_in_turn, take_ask, due_answers}
use Rattle.replica_rules.specs.Voting.{with_vote, with_claim, committed}
use Rattle.replica_rules.specs.Leading.{all_certified}
use Rattle.holding_model.specs.Changing.{Change, AddsPart, AddsBase, SwitchesTo, FoldsTo}
use Rattle.replica_rules.specs.Nodes.{Memory, NodeState}
use Rattle.replica_rules.specs.Rules.{Sending, Turn, Plan, quiet, plan_of, ignored, vote_for, votes_for, claim_of, claims_of, then_claims, part_answered, then_answers, by_part, answer_out, by_ask, by_gather, by_stage, same_record, by_switch, dumped, by_dump, with_leader, by_vote, fold_number, folds, after_fold, then_fold, by_claim, is_at_start, by_tick, from_client, is_node, from_node, from_result, Input, Receives, Ticks, planned}
use Rattle.list_lemmas.proofs.Each.{either_way, all_both, all_map, all_each, all_flat, any_way}

-- a part is added, or parts are folded
abbrev pub IsAdded : Change → Type 0
IsAdded (AddsPart rec) = Unit {0}
IsAdded (AddsBase base) = ⊥
IsAdded (SwitchesTo e) = ⊥
IsAdded (FoldsTo n) = Unit {0}

-- a turn whose messages all have P, and which only adds parts and folds
pub record IsPlain (P : Message → Type 0) (turn : Turn) : Type 0 where
  pub outs : AllByRecursion (λ out. P out.message) turn.outs
  pub changes : AllByRecursion IsAdded turn.changes

module _ (P : Message → Type 0) (prepared : (m : Prepared) → P (message.Prepared m)) (claimed : (m : Committed) → P (message.Committed m)) (answered : (m : Answer) → P (message.Answer m))
    (dump_told : (m : Dumped) → P (message.Dumped m)) (shape : Shape) where
  abbrev Tell : List Sending → Type 0
  Tell outs = AllByRecursion (λ out. P out.message) outs

  each_added : (parts : List Record) → AllByRecursion IsAdded (map (λ rec. AddsPart rec) parts)
  each_added parts = all_map IsAdded (λ rec. AddsPart rec) parts (all_each (λ rec. Unit {0}) parts (λ rec. tt))

  votes_tell : (rec : Record) → Tell (votes_for shape rec)
  votes_tell rec =
      all_map (λ out. P out.message) (λ name. record { to = sender.Node name; message = vote_for rec }) (group_of shape (led_by rec.header))
      (all_each (λ name. P (vote_for rec)) (group_of shape (led_by rec.header)) (λ name. prepared _))

  all_votes_tell : (parts : List Record) → Tell (flat_map (λ rec. votes_for shape rec) parts)
  all_votes_tell parts = all_flat (λ out. P out.message) (λ rec. votes_for shape rec) parts votes_tell

  claims_tell : (e front : ℕ) → Tell (claims_of shape e front)
  claims_tell e front = (
    claimed _,
    all_map (λ out. P out.message) (λ name. record { to = sender.Node name; message = claim_of e front }) (all_nodes shape)
        (all_each (λ name. P (claim_of e front)) (all_nodes shape) (λ name. claimed _)),
  )

  then_claims_tell : (turn : Turn) → Tell turn.outs → Tell (then_claims shape turn).outs
  then_claims_tell turn tell =
      all_both (λ out. P out.message) turn.outs (flat_map (λ h. claims_of shape turn.memory.replica.session h.seq) (all_certified shape turn.memory.leader)) tell
      (all_flat (λ out. P out.message) (λ h. claims_of shape turn.memory.replica.session h.seq) (all_certified shape turn.memory.leader) (λ h. claims_tell turn.memory.replica.session h.seq))

  then_answers_tell : (turn : Turn) → Tell turn.outs → Tell (then_answers shape turn).outs
  then_answers_tell turn tell =
      all_both (λ out. P out.message) turn.outs (map (λ answer. record { to = sender.Client; message = message.Answer answer }) (due_answers shape turn.memory.replica)) tell
      (all_map (λ out. P out.message) (λ answer. record { to = sender.Client; message = message.Answer answer }) (due_answers shape turn.memory.replica)
      (all_each (λ answer. P (message.Answer answer)) (due_answers shape turn.memory.replica) answered))

  part_answered_tell : (g : ℕ) (m : Memory) (rec : Record) (r : Replica) (answer : PartAnswer) → Tell (part_answered shape g m rec r answer).outs
  part_answered_tell g m rec r Next = all_votes_tell (after_part rec (all_kept_in_turn shape r)).parts
  part_answered_tell g m rec r Known =
      either_way (list_any (λ other. same_record other rec) m.parts) (votes_for shape rec) [] Tell (votes_tell rec) tt
  part_answered_tell g m rec r Early = tt
  part_answered_tell g m rec r Foreign = tt
  part_answered_tell g m rec r Full = tt
  part_answered_tell g m rec r (Differs root got) = tt

  answer_tells : (o : Option Answer) → Tell (answer_out o)
  answer_tells None = tt
  answer_tells (Some answer) = (answered answer, tt)

  -- ---- the changes are parts that are added, and folds

  part_answered_adds : (g : ℕ) (m : Memory) (rec : Record) (r : Replica) (answer : PartAnswer) → AllByRecursion IsAdded (part_answered shape g m rec r answer).changes
  part_answered_adds g m rec r Next = each_added (after_part rec (all_kept_in_turn shape r)).parts
  part_answered_adds g m rec r Known = tt
  part_answered_adds g m rec r Early = tt
  part_answered_adds g m rec r Foreign = tt
  part_answered_adds g m rec r Full = tt
  part_answered_adds g m rec r (Differs root got) = tt

  by_part_is : (g : ℕ) (rec : Record) (m : Memory) → IsPlain P (by_part shape g rec m)
  unfolding by_part
  by_part_is g rec m =
      let taken : PartTaken = take_part shape g m.replica rec in
      let turn : Turn = part_answered shape g m rec taken.replica taken.answer in
      record { outs = then_claims_tell (then_answers shape turn) (then_answers_tell turn (part_answered_tell g m rec taken.replica taken.answer)); changes = part_answered_adds g m rec taken.replica taken.answer }

  by_ask_is : (g : ℕ) (ask : Ask) (m : Memory) → IsPlain P (by_ask shape g ask m)
  unfolding by_ask
  by_ask_is g ask m = record { outs = answer_tells (take_ask shape g m.replica ask).answer; changes = tt }

  by_dump_is : (g : ℕ) (dump : Dump) (m : Memory) → IsPlain P (by_dump g dump m)
  unfolding by_dump
  by_dump_is g dump m =
      either_way ((dump.session == m.replica.session) && (dump.region == g)) (dumped g m) (quiet m) (IsPlain P) (record { outs = (dump_told _, tt); changes = tt }) (record { outs = tt; changes = tt })

  by_vote_is : (name : NodeName) (vote : Prepared) (m : Memory) → IsPlain P (by_vote shape name vote m)
  unfolding by_vote
  by_vote_is name vote m =
      let turn : Turn = quiet (with_leader m (record m.leader { votes = with_vote m.leader.votes name vote.seq vote.root })) in
      either_way ((vote.session == m.replica.session) && (vote.region == name.region)) (then_claims shape turn) (quiet m) (IsPlain P)
      (record { outs = then_claims_tell turn tt; changes = tt }) (record { outs = tt; changes = tt })

  then_fold_is : (turn : Turn) → IsPlain P turn → IsPlain P (then_fold shape turn)
  then_fold_is turn is =
      either_way (folds shape turn.memory)
      (record { memory = after_fold turn.memory (fold_number shape turn.memory); outs = turn.outs; changes = turn.changes ++ FoldsTo (fold_number shape turn.memory) ∷ [] }) turn (IsPlain P)
      (record { outs = is.outs; changes = all_both IsAdded turn.changes (FoldsTo (fold_number shape turn.memory) ∷ []) is.changes (tt, tt) }) is

  by_claim_is : (name : NodeName) (claim : Committed) (m : Memory) → IsPlain P (by_claim shape name claim m)
  unfolding by_claim
  by_claim_is name claim m =
      let turn : Turn = quiet (with_leader m (record m.leader { claims = with_claim m.leader.claims name claim.front })) in
      either_way (claim.session == m.replica.session) (then_fold shape (then_claims shape turn)) (quiet m) (IsPlain P)
      (then_fold_is (then_claims shape turn) (record { outs = then_claims_tell turn tt; changes = tt })) (record { outs = tt; changes = tt })

  pub by_tick_is : (m : Memory) → IsPlain P (by_tick shape m)
  unfolding by_tick
  by_tick_is m =
      let parts : List Record = filter (λ rec. nat_lt (committed shape m.leader.claims) rec.header.seq) m.parts in
      let last : List Sending = if is_at_start m.leader.front m.begun then [] else claims_of shape m.replica.session m.leader.front in
      record {
        outs = all_both (λ out. P out.message) (flat_map (λ rec. votes_for shape rec) parts) last (all_votes_tell parts)
            (either_way (is_at_start m.leader.front m.begun) [] (claims_of shape m.replica.session m.leader.front) Tell tt (claims_tell m.replica.session m.leader.front));
        changes = tt;
      }

  -- the rules of an open session, by the message
  pub client_rule_is : (g : ℕ) (node : NodeState) (Q : Plan → Type 0) → Q (ignored node) → ((turn : Turn) → IsPlain P turn → Q (plan_of turn))
      → ((e : ℕ) → Q (by_gather node e)) → ((base : Base) → Q (by_stage shape g node base)) → ((e : ℕ) → Q (by_switch shape g node e)) → (m : Message) → Q (from_client shape g node m)
  client_rule_is g node Q none plain gather stage switch (message.Part m) = any_way Q (λ k. plan_of (by_part shape g m.rec k)) (ignored node) node.memory (λ k. plain (by_part shape g m.rec k) (by_part_is g m.rec k)) none
  client_rule_is g node Q none plain gather stage switch (message.Ask m) = any_way Q (λ k. plan_of (by_ask shape g m k)) (ignored node) node.memory (λ k. plain (by_ask shape g m k) (by_ask_is g m k)) none
  client_rule_is g node Q none plain gather stage switch (message.Dump m) = any_way Q (λ k. plan_of (by_dump g m k)) (ignored node) node.memory (λ k. plain (by_dump g m k) (by_dump_is g m k)) none
  client_rule_is g node Q none plain gather stage switch (message.Gather m) = gather m.session
  client_rule_is g node Q none plain gather stage switch (message.Stage m) = stage m.base
  client_rule_is g node Q none plain gather stage switch (message.Switch m) = switch m.session
  client_rule_is g node Q none plain gather stage switch (message.Prepared m) = none
  client_rule_is g node Q none plain gather stage switch (message.Committed m) = none
  client_rule_is g node Q none plain gather stage switch (message.Answer m) = none
  client_rule_is g node Q none plain gather stage switch (message.Gathered m) = none
  client_rule_is g node Q none plain gather stage switch (message.Staged m) = none
  client_rule_is g node Q none plain gather stage switch (message.Switched m) = none
  client_rule_is g node Q none plain gather stage switch (message.Dumped m) = none

  node_rule_is : (node : NodeState) (Q : Plan → Type 0) → Q (ignored node) → ((turn : Turn) → IsPlain P turn → Q (plan_of turn)) → (name : NodeName) (m : Message) → Q (from_node shape node name m)
  node_rule_is node Q none plain name (message.Prepared m) = any_way Q (λ k. plan_of (by_vote shape name m k)) (ignored node) node.memory (λ k. plain (by_vote shape name m k) (by_vote_is name m k)) none
  node_rule_is node Q none plain name (message.Committed m) = any_way Q (λ k. plan_of (by_claim shape name m k)) (ignored node) node.memory (λ k. plain (by_claim shape name m k) (by_claim_is name m k)) none
  node_rule_is node Q none plain name (message.Part m) = none
  node_rule_is node Q none plain name (message.Ask m) = none
  node_rule_is node Q none plain name (message.Answer m) = none
  node_rule_is node Q none plain name (message.Gather m) = none
  node_rule_is node Q none plain name (message.Gathered m) = none
  node_rule_is node Q none plain name (message.Stage m) = none
  node_rule_is node Q none plain name (message.Staged m) = none
  node_rule_is node Q none plain name (message.Switch m) = none
  node_rule_is node Q none plain name (message.Switched m) = none
  node_rule_is node Q none plain name (message.Dump m) = none
  node_rule_is node Q none plain name (message.Dumped m) = none

  sender_rule_is : (g : ℕ) (node : NodeState) (Q : Plan → Type 0) → Q (ignored node) → ((turn : Turn) → IsPlain P turn → Q (plan_of turn))
      → ((e : ℕ) → Q (by_gather node e)) → ((base : Base) → Q (by_stage shape g node base)) → ((e : ℕ) → Q (by_switch shape g node e)) → (from : Sender) (r : Result Message MessageError) → Q (from_result shape g node from r)
  sender_rule_is g node Q none plain gather stage switch sender.Client (Ok m) = client_rule_is g node Q none plain gather stage switch m
  sender_rule_is g node Q none plain gather stage switch (sender.Node name) (Ok m) = either_way (is_node shape name) (from_node shape node name m) (ignored node) Q (node_rule_is node Q none plain name m) none
  sender_rule_is g node Q none plain gather stage switch from (Err e) = none

  -- So whatever holds of plain turns, and of the three rules that need no open session, holds of every handling.
  pub planned_is : (g : ℕ) (node : NodeState) (Q : Plan → Type 0) → Q (ignored node) → ((turn : Turn) → IsPlain P turn → Q (plan_of turn))
      → ((e : ℕ) → Q (by_gather node e)) → ((base : Base) → Q (by_stage shape g node base)) → ((e : ℕ) → Q (by_switch shape g node e)) → (input : Input) → Q (planned shape g node input)
  unfolding planned
  planned_is g node Q none plain gather stage switch (Receives from bytes) = sender_rule_is g node Q none plain gather stage switch from (message_at bytes)
  planned_is g node Q none plain gather stage switch Ticks = any_way Q (λ m. plan_of (by_tick shape m)) (ignored node) node.memory (λ m. plain (by_tick shape m) (by_tick_is m)) none
