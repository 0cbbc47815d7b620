-- What a node keeps, it was given: where something holds of the records that it holds and keeps, and of those that are
-- handed to it, it holds of those that it holds and keeps then, and so at each moment of its changes.
use Rattle.std.proofs.Common.{ℕ, zero, suc, ◌==◌, ◌&&◌, not, nat_le, nat_lt, if◌then◌else◌, List, [], ◌∷◌, ◌++◌, length, map, Option, None, Some, bytes_eq}
use Rattle.std.specs.Prelude.{filter, option_map, Result, Ok, Err}
use Rattle.std.specs.Option.{option_map_or}
use Rattle.std.specs.List.{AllByRecursion}
use Rattle.salus_types.specs.Volume.{Shape}
use Rattle.salus_types.specs.declared.names.NodeName.{NodeName}
use Rattle.salus_types.specs.declared.names.Sender.{Sender}
use Rattle.salus_types.specs.declared.names.Sender.TheVariants as sender
use Rattle.salus_types.specs.declared.records.Record.{Record}
use Rattle.salus_types.specs.declared.records.Base.{Base}
use Rattle.salus_types.specs.declared.records.Held.{Held}
use Rattle.salus_message.specs.declared.small.Prepared.{Prepared}
use Rattle.salus_message.specs.declared.small.Committed.{Committed}
use Rattle.salus_message.specs.declared.small.Ask.{Ask}
use Rattle.salus_message.specs.declared.small.Dump.{Dump}
use Rattle.salus_message.specs.declared.wire.Message.{Message}
use Rattle.salus_message.specs.declared.wire.Message.TheVariants as message
use Rattle.salus_message.specs.declared.wire.MessageError.{MessageError}
use Rattle.salus_message.specs.Reading.{message_at}
use Rattle.merkle_region.specs.Tree.{root_of}
use Rattle.holding_model.specs.Fitting.{has_shape}
use Rattle.replica_rules.specs.Views.{view_after, view_root, is_accepted}
use Rattle.replica_rules.specs.Replicas.{Replica, with_view, PartAnswer, Foreign, Known, Early, Full, Differs, Next, PartTaken, left_as, is_for, has_early, kept_early, tried, take_part, KeptTaken, next_kept, without_kept, take_out, take_kept, Applied, no_more, after_part, kept_in_turn, all_kept_in_turn, take_ask, AskTaken, is_asked_here, is_due, answer_to, with_ask}
use Rattle.replica_rules.specs.Voting.{with_vote, with_claim}
use Rattle.holding_model.specs.Changing.{Change, AddsPart, AddsBase, SwitchesTo, FoldsTo, is_folded, is_open_base, base_after, base_after_all, folded, changed, after_changes, contents_through}
use Rattle.replica_rules.specs.Nodes.{Memory, NodeState, base_held, memory_of, open_base, loaded_as}
use Rattle.replica_rules.specs.Rules.{Turn, Plan, quiet, plan_of, ignored, told_client, in_session, then_claims, stored, part_answered, by_part, ask_taken, by_ask, is_carried, by_gather, says_staged, staged, staged_again, staged_whole, staged_from, staged_anew, is_staged_here, by_stage, same_record, says_switched, switched, by_switch, dumped, by_dump, with_leader, by_vote, fold_number, folds, after_fold, then_fold, by_claim, by_tick, from_client, is_node, from_node, from_sender, from_result, Input, Receives, Ticks, planned, handled}
use Rattle.list_lemmas.proofs.Each.{either_way, all_both, all_filter, all_map, OfSome, found_of_all, some_way, any_way}

-- ---- what holds of records holds of

-- each record that is held
pub record OfHeld (Good : Record → Type 0) (held : Held) : Type 0 where
  pub bases : AllByRecursion (λ base. Good base.rec) held.bases
  pub parts : AllByRecursion Good held.parts

-- each part that is kept early
abbrev pub OfKept : (Record → Type 0) → Replica → Type 0
OfKept Good r = AllByRecursion Good r.early

abbrev pub OfMemory : (Record → Type 0) → Option Memory → Type 0
OfMemory Good memory = OfSome (λ m. OfKept Good m.replica) memory

-- a part or base that is stored
abbrev pub OfChange : (Record → Type 0) → Change → Type 0
OfChange Good (AddsPart rec) = Good rec
OfChange Good (AddsBase base) = Good base.rec
OfChange Good (SwitchesTo e) = Unit {0}
OfChange Good (FoldsTo n) = Unit {0}

abbrev pub OfChanges : (Record → Type 0) → List Change → Type 0
OfChanges Good changes = AllByRecursion (OfChange Good) changes

-- a part or base that the client hands over
abbrev pub OfMessage : (Record → Type 0) → Message → Type 0
OfMessage Good (message.Part m) = Good m.rec
OfMessage Good (message.Stage m) = Good m.base.rec
OfMessage Good other = Unit {0}

abbrev pub OfLetter : (Record → Type 0) → Sender → Message → Type 0
OfLetter Good sender.Client m = OfMessage Good m
OfLetter Good (sender.Node name) m = Unit {0}

abbrev pub OfResult : (Record → Type 0) → Sender → Result Message MessageError → Type 0
OfResult Good from (Ok m) = OfLetter Good from m
OfResult Good from (Err e) = Unit {0}

abbrev pub OfInput : (Record → Type 0) → Input → Type 0
OfInput Good (Receives from bytes) = OfResult Good from (message_at bytes)
OfInput Good Ticks = Unit {0}

pub record OfTurn (Good : Record → Type 0) (turn : Turn) : Type 0 where
  pub kept : OfKept Good turn.memory.replica
  pub changes : OfChanges Good turn.changes

pub record OfPlan (Good : Record → Type 0) (plan : Plan) : Type 0 where
  pub kept : OfMemory Good plan.memory
  pub changes : OfChanges Good plan.changes

pub record OfApplied (Good : Record → Type 0) (applied : Applied) : Type 0 where
  pub kept : OfKept Good applied.replica
  pub parts : AllByRecursion Good applied.parts

pub record OfKeptTaken (Good : Record → Type 0) (taken : KeptTaken) : Type 0 where
  pub kept : OfKept Good taken.replica
  pub part : OfSome Good taken.part

module _ (Good : Record → Type 0) (shape : Shape) where
  -- ---- the replica

  kept_early_of : (r : Replica) (rec : Record) → OfKept Good r → Good rec → OfKept Good (kept_early r rec).replica
  kept_early_of r rec kept good =
      either_way (has_early r.early rec.header.previous) (left_as r Early) (if nat_lt (length r.early) 16 then left_as (record r { early = r.early ++ rec ∷ [] }) Early else left_as r Full) (λ t. OfKept Good t.replica) kept
      (either_way (nat_lt (length r.early) 16) (left_as (record r { early = r.early ++ rec ∷ [] }) Early) (left_as r Full) (λ t. OfKept Good t.replica) (all_both Good r.early (rec ∷ []) kept (good, tt)) kept)

  tried_of : (r : Replica) (rec : Record) → OfKept Good r → OfKept Good (tried shape r rec).replica
  tried_of r rec kept =
      either_way (is_accepted shape r.view rec) (left_as (with_view r (view_after shape r.view rec)) Next) (left_as r (Differs rec.header.root (view_root shape (view_after shape r.view rec)))) (λ t. OfKept Good t.replica) kept kept

  take_part_of : (g : ℕ) (r : Replica) (rec : Record) → OfKept Good r → Good rec → OfKept Good (take_part shape g r rec).replica
  unfolding take_part
  take_part_of g r rec kept good =
      let P : PartTaken → Type 0 = λ t. OfKept Good t.replica in
      either_way (not (is_for shape g r rec)) (left_as r Foreign) (if nat_le rec.header.seq r.view.number then left_as r Known else (if rec.header.previous == r.view.number then tried shape r rec else kept_early r rec)) P kept
      (either_way (nat_le rec.header.seq r.view.number) (left_as r Known) (if rec.header.previous == r.view.number then tried shape r rec else kept_early r rec) P kept
      (either_way (rec.header.previous == r.view.number) (tried shape r rec) (kept_early r rec) P (tried_of r rec kept) (kept_early_of r rec kept good)))

  take_out_of : (r : Replica) (rec : Record) → OfKept Good r → Good rec → OfKeptTaken Good (take_out shape r rec)
  take_out_of r rec kept good =
      let less : OfKept Good (without_kept r) = all_filter Good (λ other. not (other.header.previous == r.view.number)) r.early kept in
      either_way (is_accepted shape r.view rec) (record { replica = with_view (without_kept r) (view_after shape r.view rec); part = Some rec }) (record { replica = without_kept r; part = None }) (OfKeptTaken Good)
      (record { kept = less; part = good }) (record { kept = less; part = tt })

  take_kept_of : (r : Replica) → OfKept Good r → OfKeptTaken Good (take_kept shape r)
  unfolding take_kept
  take_kept_of r kept =
      some_way Good (OfKeptTaken Good) (λ rec. take_out shape r rec) (record { replica = r; part = None }) (next_kept r)
      (found_of_all Good (λ rec. rec.header.previous == r.view.number) r.early kept) (λ rec good. take_out_of r rec kept good) (record { kept = kept; part = tt })

  kept_in_turn_of : (n : ℕ) (r : Replica) → OfKept Good r → OfApplied Good (kept_in_turn shape n r)
  unfolding kept_in_turn
  kept_in_turn_of zero r kept = record { kept = kept; parts = tt }
  kept_in_turn_of (suc n) r kept =
      let taken : OfKeptTaken Good (take_kept shape r) = take_kept_of r kept in
      let more : OfApplied Good (kept_in_turn shape n (take_kept shape r).replica) = kept_in_turn_of n (take_kept shape r).replica taken.kept in
      some_way Good (OfApplied Good) (λ rec. after_part rec (kept_in_turn shape n (take_kept shape r).replica)) (no_more (take_kept shape r).replica) (take_kept shape r).part
      taken.part (λ rec good. record { kept = more.kept; parts = (good, more.parts) }) (record { kept = taken.kept; parts = tt })

  -- ---- the rules

  stored_of : (g : ℕ) (m : Memory) (applied : Applied) → OfApplied Good applied → OfTurn Good (stored shape g m applied)
  stored_of g m applied of = record { kept = of.kept; changes = all_map (OfChange Good) (λ rec. AddsPart rec) applied.parts of.parts }

  part_answered_of : (g : ℕ) (m : Memory) (rec : Record) (r : Replica) (answer : PartAnswer) → OfKept Good m.replica → OfKept Good r → Good rec → OfTurn Good (part_answered shape g m rec r answer)
  part_answered_of g m rec r Next old kept good =
      let more : OfApplied Good (all_kept_in_turn shape r) = kept_in_turn_of (length r.early) r kept in
      stored_of g m (after_part rec (all_kept_in_turn shape r)) (record { kept = more.kept; parts = (good, more.parts) })
  part_answered_of g m rec r Known old kept good = record { kept = old; changes = tt }
  part_answered_of g m rec r Early old kept good = record { kept = kept; changes = tt }
  part_answered_of g m rec r Foreign old kept good = record { kept = old; changes = tt }
  part_answered_of g m rec r Full old kept good = record { kept = old; changes = tt }
  part_answered_of g m rec r (Differs root got) old kept good = record { kept = old; changes = tt }

  by_part_of : (g : ℕ) (rec : Record) (m : Memory) → OfKept Good m.replica → Good rec → OfTurn Good (by_part shape g rec m)
  unfolding by_part
  by_part_of g rec m kept good =
      let taken : PartTaken = take_part shape g m.replica rec in
      let turn : OfTurn Good (part_answered shape g m rec taken.replica taken.answer) = part_answered_of g m rec taken.replica taken.answer kept (take_part_of g m.replica rec kept good) good in
      record { kept = turn.kept; changes = turn.changes }

  by_ask_of : (g : ℕ) (ask : Ask) (m : Memory) → OfKept Good m.replica → OfTurn Good (by_ask shape g ask m)
  unfolding by_ask take_ask
  by_ask_of g ask m kept =
      let r : Replica = m.replica in
      let P : AskTaken → Type 0 = λ t. OfTurn Good (ask_taken m t) in
      either_way (not (is_asked_here shape g r ask)) (record { replica = r; answer = None })
      (if is_due r.view ask then record { replica = r; answer = Some (answer_to shape r.view ask) } else record { replica = record r { asks = with_ask r.asks ask }; answer = None }) P
      (record { kept = kept; changes = tt })
      (either_way (is_due r.view ask) (record { replica = r; answer = Some (answer_to shape r.view ask) }) (record { replica = record r { asks = with_ask r.asks ask }; answer = None }) P
      (record { kept = kept; changes = tt }) (record { kept = kept; changes = tt }))

  by_dump_of : (g : ℕ) (dump : Dump) (m : Memory) → OfKept Good m.replica → OfTurn Good (by_dump g dump m)
  unfolding by_dump
  by_dump_of g dump m kept =
      either_way ((dump.session == m.replica.session) && (dump.region == g)) (dumped g m) (quiet m) (OfTurn Good) (record { kept = kept; changes = tt }) (record { kept = kept; changes = tt })

  by_vote_of : (name : NodeName) (vote : Prepared) (m : Memory) → OfKept Good m.replica → OfTurn Good (by_vote shape name vote m)
  unfolding by_vote
  by_vote_of name vote m kept =
      either_way ((vote.session == m.replica.session) && (vote.region == name.region)) (then_claims shape (quiet (with_leader m (record m.leader { votes = with_vote m.leader.votes name vote.seq vote.root })))) (quiet m)
      (OfTurn Good) (record { kept = kept; changes = tt }) (record { kept = kept; changes = tt })

  then_fold_of : (turn : Turn) → OfTurn Good turn → OfTurn Good (then_fold shape turn)
  then_fold_of turn of =
      either_way (folds shape turn.memory)
      (record { memory = after_fold turn.memory (fold_number shape turn.memory); outs = turn.outs; changes = turn.changes ++ FoldsTo (fold_number shape turn.memory) ∷ [] }) turn (OfTurn Good)
      (record { kept = of.kept; changes = all_both (OfChange Good) turn.changes (FoldsTo (fold_number shape turn.memory) ∷ []) of.changes (tt, tt) }) of

  by_claim_of : (name : NodeName) (claim : Committed) (m : Memory) → OfKept Good m.replica → OfTurn Good (by_claim shape name claim m)
  unfolding by_claim
  by_claim_of name claim m kept =
      let turn : Turn = then_claims shape (quiet (with_leader m (record m.leader { claims = with_claim m.leader.claims name claim.front }))) in
      either_way (claim.session == m.replica.session) (then_fold shape turn) (quiet m) (OfTurn Good) (then_fold_of turn (record { kept = kept; changes = tt })) (record { kept = kept; changes = tt })

  by_tick_of : (m : Memory) → OfKept Good m.replica → OfTurn Good (by_tick shape m)
  unfolding by_tick
  by_tick_of m kept = record { kept = kept; changes = tt }

  in_session_of : (node : NodeState) (rule : Memory → Turn) → OfMemory Good node.memory → ((m : Memory) → OfKept Good m.replica → OfTurn Good (rule m)) → OfPlan Good (in_session node rule)
  in_session_of node rule kept of =
      some_way (λ m. OfKept Good m.replica) (OfPlan Good) (λ m. plan_of (rule m)) (ignored node) node.memory kept
      (λ m k. record { kept = (of m k).kept; changes = (of m k).changes }) (record { kept = kept; changes = tt })

  by_gather_of : (node : NodeState) (e : ℕ) → OfMemory Good node.memory → OfPlan Good (by_gather node e)
  unfolding by_gather
  by_gather_of node e kept =
      either_way (is_carried node.held) (told_client node (message.Gathered (record { session = e; held = node.held }))) (ignored node) (OfPlan Good) (record { kept = kept; changes = tt }) (record { kept = kept; changes = tt })

  staged_anew_of : (node : NodeState) (base : Base) → OfMemory Good node.memory → Good base.rec → OfPlan Good (staged_anew shape node base)
  staged_anew_of node base kept good =
      let none : OfPlan Good (ignored node) = record { kept = kept; changes = tt } in
      either_way (length base.blocks == 0) (option_map_or (λ m. staged_from shape node base.rec m) node.memory (ignored node)) (staged_whole shape node base) (OfPlan Good)
      (any_way (OfPlan Good) (λ m. staged_from shape node base.rec m) (ignored node) node.memory
      (λ m. either_way (bytes_eq (view_root shape m.replica.view) base.rec.header.root) (staged node base.rec m.replica.view.blocks) (ignored node) (OfPlan Good) (record { kept = kept; changes = (good, tt) }) none) none)
      (either_way (has_shape shape base.blocks && bytes_eq (root_of shape.height base.blocks) base.rec.header.root) (staged node base.rec base.blocks) (ignored node) (OfPlan Good)
      (record { kept = kept; changes = (good, tt) }) none)

  by_stage_of : (g : ℕ) (node : NodeState) (base : Base) → OfMemory Good node.memory → Good base.rec → OfPlan Good (by_stage shape g node base)
  unfolding by_stage
  by_stage_of g node base kept good =
      let none : OfPlan Good (ignored node) = record { kept = kept; changes = tt } in
      either_way (is_staged_here g node base.rec.header)
      (option_map_or (λ held. staged_again node base.rec held) (base_held shape g base.rec.header.session node.held) (staged_anew shape node base)) (ignored node) (OfPlan Good)
      (any_way (OfPlan Good) (λ held. staged_again node base.rec held) (staged_anew shape node base) (base_held shape g base.rec.header.session node.held)
      (λ held. either_way (same_record held.rec base.rec) (says_staged node base.rec.header.session) (ignored node) (OfPlan Good) (record { kept = kept; changes = tt }) none)
      (staged_anew_of node base kept good)) none

  pub fresh_of : (g : ℕ) (held : Held) → OfMemory Good (loaded_as shape g held).memory
  unfolding loaded_as
  fresh_of g held = mapped_of g held (open_base shape g held) where
    mapped_of : (g : ℕ) (held : Held) (o : Option Base) → OfMemory Good (option_map (λ base. memory_of shape g held base) o)
    mapped_of g held None = tt
    mapped_of g held (Some base) = tt

  by_switch_of : (g : ℕ) (node : NodeState) (e : ℕ) → OfMemory Good node.memory → OfPlan Good (by_switch shape g node e)
  unfolding by_switch
  by_switch_of g node e kept =
      let none : OfPlan Good (ignored node) = record { kept = kept; changes = tt } in
      either_way (e == node.held.session) (says_switched node e) (if nat_lt node.held.session e then option_map_or (λ base. switched shape g node e) (base_held shape g e node.held) (ignored node) else ignored node) (OfPlan Good)
      (record { kept = kept; changes = tt })
      (either_way (nat_lt node.held.session e) (option_map_or (λ base. switched shape g node e) (base_held shape g e node.held) (ignored node)) (ignored node) (OfPlan Good)
      (any_way (OfPlan Good) (λ base. switched shape g node e) (ignored node) (base_held shape g e node.held)
      (λ base. record { kept = fresh_of g (changed shape node.held (SwitchesTo e)); changes = (tt, tt) }) none) none)

  from_client_of : (g : ℕ) (node : NodeState) (m : Message) → OfMemory Good node.memory → OfMessage Good m → OfPlan Good (from_client shape g node m)
  from_client_of g node (message.Part m) kept good = in_session_of node (by_part shape g m.rec) kept (λ k of. by_part_of g m.rec k of good)
  from_client_of g node (message.Ask m) kept good = in_session_of node (by_ask shape g m) kept (by_ask_of g m)
  from_client_of g node (message.Gather m) kept good = by_gather_of node m.session kept
  from_client_of g node (message.Stage m) kept good = by_stage_of g node m.base kept good
  from_client_of g node (message.Switch m) kept good = by_switch_of g node m.session kept
  from_client_of g node (message.Dump m) kept good = in_session_of node (by_dump g m) kept (by_dump_of g m)
  from_client_of g node (message.Prepared m) kept good = record { kept = kept; changes = tt }
  from_client_of g node (message.Committed m) kept good = record { kept = kept; changes = tt }
  from_client_of g node (message.Answer m) kept good = record { kept = kept; changes = tt }
  from_client_of g node (message.Gathered m) kept good = record { kept = kept; changes = tt }
  from_client_of g node (message.Staged m) kept good = record { kept = kept; changes = tt }
  from_client_of g node (message.Switched m) kept good = record { kept = kept; changes = tt }
  from_client_of g node (message.Dumped m) kept good = record { kept = kept; changes = tt }

  from_node_of : (node : NodeState) (name : NodeName) (m : Message) → OfMemory Good node.memory → OfPlan Good (from_node shape node name m)
  from_node_of node name (message.Prepared m) kept = in_session_of node (by_vote shape name m) kept (by_vote_of name m)
  from_node_of node name (message.Committed m) kept = in_session_of node (by_claim shape name m) kept (by_claim_of name m)
  from_node_of node name (message.Part m) kept = record { kept = kept; changes = tt }
  from_node_of node name (message.Ask m) kept = record { kept = kept; changes = tt }
  from_node_of node name (message.Answer m) kept = record { kept = kept; changes = tt }
  from_node_of node name (message.Gather m) kept = record { kept = kept; changes = tt }
  from_node_of node name (message.Gathered m) kept = record { kept = kept; changes = tt }
  from_node_of node name (message.Stage m) kept = record { kept = kept; changes = tt }
  from_node_of node name (message.Staged m) kept = record { kept = kept; changes = tt }
  from_node_of node name (message.Switch m) kept = record { kept = kept; changes = tt }
  from_node_of node name (message.Switched m) kept = record { kept = kept; changes = tt }
  from_node_of node name (message.Dump m) kept = record { kept = kept; changes = tt }
  from_node_of node name (message.Dumped m) kept = record { kept = kept; changes = tt }

  from_sender_of : (g : ℕ) (node : NodeState) (from : Sender) (m : Message) → OfMemory Good node.memory → OfLetter Good from m → OfPlan Good (from_sender shape g node from m)
  from_sender_of g node sender.Client m kept good = from_client_of g node m kept good
  from_sender_of g node (sender.Node name) m kept good =
      either_way (is_node shape name) (from_node shape node name m) (ignored node) (OfPlan Good) (from_node_of node name m kept) (record { kept = kept; changes = tt })

  from_result_of : (g : ℕ) (node : NodeState) (from : Sender) (r : Result Message MessageError) → OfMemory Good node.memory → OfResult Good from r → OfPlan Good (from_result shape g node from r)
  from_result_of g node from (Ok m) kept good = from_sender_of g node from m kept good
  from_result_of g node from (Err e) kept good = record { kept = kept; changes = tt }

  pub planned_of : (g : ℕ) (node : NodeState) (input : Input) → OfMemory Good node.memory → OfInput Good input → OfPlan Good (planned shape g node input)
  unfolding planned
  planned_of g node (Receives from bytes) kept good = from_result_of g node from (message_at bytes) kept good
  planned_of g node Ticks kept good = in_session_of node (by_tick shape) kept by_tick_of

  -- ---- what is held

  base_after_of : (base : Base) (parts : List Record) → Good base.rec → AllByRecursion Good parts → Good (base_after_all shape base parts).rec
  unfolding base_after_all
  base_after_of base [] good all = good
  base_after_of base (rec ∷ parts) good all = base_after_of (base_after shape base rec) parts all.0 all.1

  bases_after_of : (parts : List Record) (bases : List Base) → AllByRecursion Good parts → AllByRecursion (λ base. Good base.rec) bases → AllByRecursion (λ base. Good base.rec) (map (λ base. base_after_all shape base parts) bases)
  bases_after_of parts [] all of = tt
  bases_after_of parts (base ∷ bases) all of = (base_after_of base parts of.0 all, bases_after_of parts bases all of.1)

  folded_of : (held : Held) (n : ℕ) (parts : List Record) → OfHeld Good held → OfHeld Good (folded shape held n parts)
  folded_of held n [] of = of
  folded_of held n (rec ∷ parts) of =
      let first : List Base = filter (λ base. is_open_base held base) held.bases in
      let gone : List Record = filter (λ rec. is_folded held n rec) held.parts in
      record {
        bases = all_both (λ base. Good base.rec) (map (λ base. base_after_all shape base gone) first) (filter (λ base. nat_lt held.session base.rec.header.session) held.bases)
            (bases_after_of gone first (all_filter Good (λ rec. is_folded held n rec) held.parts of.parts) (all_filter (λ base. Good base.rec) (λ base. is_open_base held base) held.bases of.bases))
            (all_filter (λ base. Good base.rec) (λ base. nat_lt held.session base.rec.header.session) held.bases of.bases);
        parts = all_filter Good (λ rec. not (is_folded held n rec)) held.parts of.parts;
      }

  changed_of : (held : Held) (change : Change) → OfHeld Good held → OfChange Good change → OfHeld Good (changed shape held change)
  unfolding changed
  changed_of held (AddsPart rec) of good = record { bases = of.bases; parts = all_both Good held.parts (rec ∷ []) of.parts (good, tt) }
  changed_of held (AddsBase base) of good = record { bases = all_both (λ base. Good base.rec) held.bases (base ∷ []) of.bases (good, tt); parts = of.parts }
  changed_of held (SwitchesTo e) of good = record {
    bases = all_filter (λ base. Good base.rec) (λ base. nat_le e base.rec.header.session) held.bases of.bases;
    parts = all_filter Good (λ rec. nat_le e rec.header.session) held.parts of.parts;
  }
  changed_of held (FoldsTo n) of good = folded_of held n (filter (λ rec. is_folded held n rec) held.parts) of

  after_changes_of : (held : Held) (changes : List Change) → OfHeld Good held → OfChanges Good changes → OfHeld Good (after_changes shape held changes)
  unfolding after_changes
  after_changes_of held [] of good = of
  after_changes_of held (change ∷ changes) of good = after_changes_of (changed shape held change) changes (changed_of held change of good.0) good.1

  pub contents_through_of : (held : Held) (changes : List Change) → OfHeld Good held → OfChanges Good changes → AllByRecursion (OfHeld Good) (contents_through shape held changes)
  unfolding contents_through
  contents_through_of held [] of good = (of, tt)
  contents_through_of held (change ∷ changes) of good = (of, contents_through_of (changed shape held change) changes (changed_of held change of good.0) good.1)

  pub handled_of : (g : ℕ) (node : NodeState) (input : Input) → OfHeld Good node.held → OfMemory Good node.memory → OfInput Good input → OfHeld Good (handled shape g node input).node.held
  handled_of g node input of kept good = after_changes_of node.held (planned shape g node input).changes of (planned_of g node input kept good).changes
