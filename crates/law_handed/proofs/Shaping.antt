-- Where all that a node holds and keeps fits, by what is given of the records that are handed to it, all that it holds and
-- keeps then fits, and so at each moment of its changes.
use Rattle.std.proofs.Common.{◌≡◌, ℕ, zero, suc, Bool, true, false, ◌==◌, ◌&&◌, not, nat_le, nat_lt, if◌then◌else◌, List, [], ◌∷◌, ◌++◌, length, map, Option, None, Some, bytes_eq, refl}
use Rattle.std.specs.Prelude.{filter, option_map, Result, Ok, Err}
use Rattle.std.specs.Option.{option_map_or}
use Rattle.std.specs.List.{AllByRecursion}
use Rattle.salus_types.specs.Volume.{Shape}
use Rattle.salus_types.specs.declared.names.NodeName.{NodeName}
use Rattle.salus_types.specs.declared.names.Sender.{Sender}
use Rattle.salus_types.specs.declared.names.Sender.TheVariants as sender
use Rattle.salus_types.specs.declared.records.Record.{Record}
use Rattle.salus_types.specs.declared.records.Base.{Base}
use Rattle.salus_types.specs.declared.records.Held.{Held}
use Rattle.salus_message.specs.declared.small.Prepared.{Prepared}
use Rattle.salus_message.specs.declared.small.Committed.{Committed}
use Rattle.salus_message.specs.declared.small.Ask.{Ask}
use Rattle.salus_message.specs.declared.small.Dump.{Dump}
use Rattle.salus_message.specs.declared.wire.Message.{Message}
use Rattle.salus_message.specs.declared.wire.Message.TheVariants as message
use Rattle.salus_message.specs.declared.wire.MessageError.{MessageError}
use Rattle.salus_message.specs.Reading.{message_at}
use Rattle.merkle_region.specs.Tree.{root_of}
use Rattle.holding_model.specs.Fitting.{record_fits, has_shape}
use Rattle.replica_rules.specs.Views.{View, view_of_base, has_right_shape, view_after, view_root, is_accepted}
use Rattle.replica_rules.specs.Replicas.{Replica, with_view, PartAnswer, Foreign, Known, Early, Full, Differs, Next, PartTaken, left_as, is_for, has_early, kept_early, tried, take_part, KeptTaken, next_kept, without_kept, take_out, take_kept, Applied, no_more, after_part, kept_in_turn, all_kept_in_turn, take_ask, AskTaken, is_asked_here, is_due, answer_to, with_ask}
use Rattle.replica_rules.specs.Voting.{with_vote, with_claim}
use Rattle.holding_model.specs.Changing.{Change, AddsPart, AddsBase, SwitchesTo, FoldsTo, is_folded, is_open_base, base_after, base_after_all, folded, changed, after_changes, contents_through}
use Rattle.replica_rules.specs.Nodes.{Memory, NodeState, stands_for, base_held, goes_on, counted, all_tried, open_parts, memory_of, open_base, loaded_as}
use Rattle.replica_rules.specs.Rules.{Turn, Plan, quiet, plan_of, ignored, told_client, in_session, then_claims, stored, part_answered, by_part, ask_taken, by_ask, is_carried, by_gather, says_staged, staged, staged_again, staged_whole, staged_from, staged_anew, is_staged_here, by_stage, same_record, says_switched, switched, by_switch, dumped, by_dump, with_leader, by_vote, fold_number, folds, after_fold, then_fold, by_claim, by_tick, from_client, is_node, from_node, from_sender, from_result, Input, Receives, Ticks, planned, handled}
use Rattle.list_lemmas.proofs.Each.{either_way, all_both, all_filter, all_map, OfSome, found_of_all, some_way, any_way}
use Rattle.list_lemmas.proofs.Tests.{way_with, and_left, and_right}
use Rattle.law_handed.specs.Fitting.{PartFits, BaseFits, HeldFits, IsClosed, MessageGiven, FromGiven}

-- ---- what fits

module _ (shape : Shape) (OfPart OfBase : Record → Type 0) (Whole : List (List ℕ) → Type 0) (closed : IsClosed shape OfPart OfBase Whole) where
  -- the view is whole, and each part that is kept early fits
  pub record KeptFits (r : Replica) : Type 0 where
    pub whole : Whole r.view.blocks
    pub early : AllByRecursion (PartFits shape OfPart) r.early

  abbrev pub MemoryFits : Option Memory → Type 0
  MemoryFits memory = OfSome (λ m. KeptFits m.replica) memory

  -- a part or base that is stored
  abbrev pub ChangeFits : Change → Type 0
  ChangeFits (AddsPart rec) = PartFits shape OfPart rec
  ChangeFits (AddsBase base) = BaseFits OfBase Whole base
  ChangeFits (SwitchesTo e) = Unit {0}
  ChangeFits (FoldsTo n) = Unit {0}

  abbrev pub ChangesFit : List Change → Type 0
  ChangesFit changes = AllByRecursion ChangeFits changes

  pub record TurnFits (turn : Turn) : Type 0 where
    pub kept : KeptFits turn.memory.replica
    pub changes : ChangesFit turn.changes

  pub record PlanFits (plan : Plan) : Type 0 where
    pub kept : MemoryFits plan.memory
    pub changes : ChangesFit plan.changes

  record AppliedFits (applied : Applied) : Type 0 where
    pub kept : KeptFits applied.replica
    pub parts : AllByRecursion (PartFits shape OfPart) applied.parts

  record TakenFits (taken : KeptTaken) : Type 0 where
    pub kept : KeptFits taken.replica
    pub part : OfSome (PartFits shape OfPart) taken.part

  -- the replica fits, and where the part is the next one, it fits
  abbrev AnswerFits : Record → PartAnswer → Type 0
  AnswerFits rec Next = PartFits shape OfPart rec
  AnswerFits rec Known = Unit {0}
  AnswerFits rec Early = Unit {0}
  AnswerFits rec Foreign = Unit {0}
  AnswerFits rec Full = Unit {0}
  AnswerFits rec (Differs root got) = Unit {0}

  record TookFits (rec : Record) (taken : PartTaken) : Type 0 where
    pub kept : KeptFits taken.replica
    pub part : AnswerFits rec taken.answer

  abbrev pub ResultGiven : Sender → Result Message MessageError → Type 0
  ResultGiven from (Ok m) = FromGiven OfPart OfBase from m
  ResultGiven from (Err e) = Unit {0}

  abbrev pub InputGiven : Input → Type 0
  InputGiven (Receives from bytes) = ResultGiven from (message_at bytes)
  InputGiven Ticks = Unit {0}

  right_fits : (g : ℕ) (rec : Record) → has_right_shape shape g rec ≡ true → OfPart rec → PartFits shape OfPart rec
  unfolding has_right_shape
  right_fits g rec right given = record { given = given; inside = and_right _ (record_fits shape rec) right }

  for_fits : (g : ℕ) (r : Replica) (rec : Record) → not (is_for shape g r rec) ≡ false → OfPart rec → PartFits shape OfPart rec
  for_fits g r rec ours given = right_fits g rec (and_right ((rec.header.session == r.session) && (rec.header.region == g)) (has_right_shape shape g rec) (not_false (is_for shape g r rec) ours)) given where
    not_false : (b : Bool) → not b ≡ false → b ≡ true
    not_false true e = refl
    not_false false e = absurd (cc)

  -- ---- the replica

  kept_early_of : (r : Replica) (rec : Record) → KeptFits r → PartFits shape OfPart rec → TookFits rec (kept_early r rec)
  kept_early_of r rec kept good =
      either_way (has_early r.early rec.header.previous) (left_as r Early) (if nat_lt (length r.early) 16 then left_as (record r { early = r.early ++ rec ∷ [] }) Early else left_as r Full) (TookFits rec)
      (record { kept = kept; part = tt })
      (either_way (nat_lt (length r.early) 16) (left_as (record r { early = r.early ++ rec ∷ [] }) Early) (left_as r Full) (TookFits rec)
      (record { kept = record { whole = kept.whole; early = all_both (PartFits shape OfPart) r.early (rec ∷ []) kept.early (good, tt) }; part = tt }) (record { kept = kept; part = tt }))

  tried_of : (r : Replica) (rec : Record) → KeptFits r → PartFits shape OfPart rec → TookFits rec (tried shape r rec)
  tried_of r rec kept good =
      either_way (is_accepted shape r.view rec) (left_as (with_view r (view_after shape r.view rec)) Next) (left_as r (Differs rec.header.root (view_root shape (view_after shape r.view rec)))) (TookFits rec)
      (record { kept = record { whole = closed.after r.view.blocks rec kept.whole good; early = kept.early }; part = good }) (record { kept = kept; part = tt })

  take_part_of : (g : ℕ) (r : Replica) (rec : Record) → KeptFits r → OfPart rec → TookFits rec (take_part shape g r rec)
  unfolding take_part
  take_part_of g r rec kept given =
      way_with (not (is_for shape g r rec)) (left_as r Foreign) (if nat_le rec.header.seq r.view.number then left_as r Known else (if rec.header.previous == r.view.number then tried shape r rec else kept_early r rec)) (TookFits rec)
      (λ foreign. record { kept = kept; part = tt })
      (λ ours. let good : PartFits shape OfPart rec = for_fits g r rec ours given in
      either_way (nat_le rec.header.seq r.view.number) (left_as r Known) (if rec.header.previous == r.view.number then tried shape r rec else kept_early r rec) (TookFits rec) (record { kept = kept; part = tt })
      (either_way (rec.header.previous == r.view.number) (tried shape r rec) (kept_early r rec) (TookFits rec) (tried_of r rec kept good) (kept_early_of r rec kept good)))

  take_out_of : (r : Replica) (rec : Record) → KeptFits r → PartFits shape OfPart rec → TakenFits (take_out shape r rec)
  take_out_of r rec kept good =
      let less : AllByRecursion (PartFits shape OfPart) (without_kept r).early = all_filter (PartFits shape OfPart) (λ other. not (other.header.previous == r.view.number)) r.early kept.early in
      either_way (is_accepted shape r.view rec) (record { replica = with_view (without_kept r) (view_after shape r.view rec); part = Some rec }) (record { replica = without_kept r; part = None }) TakenFits
      (record { kept = record { whole = closed.after r.view.blocks rec kept.whole good; early = less }; part = good }) (record { kept = record { whole = kept.whole; early = less }; part = tt })

  take_kept_of : (r : Replica) → KeptFits r → TakenFits (take_kept shape r)
  unfolding take_kept
  take_kept_of r kept =
      some_way (PartFits shape OfPart) TakenFits (λ rec. take_out shape r rec) (record { replica = r; part = None }) (next_kept r)
      (found_of_all (PartFits shape OfPart) (λ rec. rec.header.previous == r.view.number) r.early kept.early) (λ rec good. take_out_of r rec kept good) (record { kept = kept; part = tt })

  kept_in_turn_of : (n : ℕ) (r : Replica) → KeptFits r → AppliedFits (kept_in_turn shape n r)
  unfolding kept_in_turn
  kept_in_turn_of zero r kept = record { kept = kept; parts = tt }
  kept_in_turn_of (suc n) r kept =
      let taken : TakenFits (take_kept shape r) = take_kept_of r kept in
      let more : AppliedFits (kept_in_turn shape n (take_kept shape r).replica) = kept_in_turn_of n (take_kept shape r).replica taken.kept in
      some_way (PartFits shape OfPart) AppliedFits (λ rec. after_part rec (kept_in_turn shape n (take_kept shape r).replica)) (no_more (take_kept shape r).replica) (take_kept shape r).part
      taken.part (λ rec good. record { kept = more.kept; parts = (good, more.parts) }) (record { kept = taken.kept; parts = tt })

  -- ---- the rules

  stored_of : (g : ℕ) (m : Memory) (applied : Applied) → AppliedFits applied → TurnFits (stored shape g m applied)
  stored_of g m applied of = record { kept = of.kept; changes = all_map ChangeFits (λ rec. AddsPart rec) applied.parts of.parts }

  part_answered_of : (g : ℕ) (m : Memory) (rec : Record) (r : Replica) (answer : PartAnswer) → KeptFits m.replica → KeptFits r → AnswerFits rec answer → TurnFits (part_answered shape g m rec r answer)
  part_answered_of g m rec r Next old kept good =
      let more : AppliedFits (all_kept_in_turn shape r) = kept_in_turn_of (length r.early) r kept in
      stored_of g m (after_part rec (all_kept_in_turn shape r)) (record { kept = more.kept; parts = (good, more.parts) })
  part_answered_of g m rec r Known old kept good = record { kept = old; changes = tt }
  part_answered_of g m rec r Early old kept good = record { kept = kept; changes = tt }
  part_answered_of g m rec r Foreign old kept good = record { kept = old; changes = tt }
  part_answered_of g m rec r Full old kept good = record { kept = old; changes = tt }
  part_answered_of g m rec r (Differs root got) old kept good = record { kept = old; changes = tt }

  by_part_of : (g : ℕ) (rec : Record) (m : Memory) → KeptFits m.replica → OfPart rec → TurnFits (by_part shape g rec m)
  unfolding by_part
  by_part_of g rec m kept given =
      let taken : PartTaken = take_part shape g m.replica rec in
      let took : TookFits rec taken = take_part_of g m.replica rec kept given in
      let turn : TurnFits (part_answered shape g m rec taken.replica taken.answer) = part_answered_of g m rec taken.replica taken.answer kept took.kept took.part in
      record { kept = record { whole = turn.kept.whole; early = turn.kept.early }; changes = turn.changes }

  by_ask_of : (g : ℕ) (ask : Ask) (m : Memory) → KeptFits m.replica → TurnFits (by_ask shape g ask m)
  unfolding by_ask take_ask
  by_ask_of g ask m kept =
      let r : Replica = m.replica in
      let P : AskTaken → Type 0 = λ t. TurnFits (ask_taken m t) in
      either_way (not (is_asked_here shape g r ask)) (record { replica = r; answer = None })
      (if is_due r.view ask then record { replica = r; answer = Some (answer_to shape r.view ask) } else record { replica = record r { asks = with_ask r.asks ask }; answer = None }) P
      (record { kept = record { whole = kept.whole; early = kept.early }; changes = tt })
      (either_way (is_due r.view ask) (record { replica = r; answer = Some (answer_to shape r.view ask) }) (record { replica = record r { asks = with_ask r.asks ask }; answer = None }) P
      (record { kept = record { whole = kept.whole; early = kept.early }; changes = tt }) (record { kept = record { whole = kept.whole; early = kept.early }; changes = tt }))

  by_dump_of : (g : ℕ) (dump : Dump) (m : Memory) → KeptFits m.replica → TurnFits (by_dump g dump m)
  unfolding by_dump
  by_dump_of g dump m kept =
      either_way ((dump.session == m.replica.session) && (dump.region == g)) (dumped g m) (quiet m) TurnFits (record { kept = kept; changes = tt }) (record { kept = kept; changes = tt })

  by_vote_of : (name : NodeName) (vote : Prepared) (m : Memory) → KeptFits m.replica → TurnFits (by_vote shape name vote m)
  unfolding by_vote
  by_vote_of name vote m kept =
      either_way ((vote.session == m.replica.session) && (vote.region == name.region)) (then_claims shape (quiet (with_leader m (record m.leader { votes = with_vote m.leader.votes name vote.seq vote.root })))) (quiet m)
      TurnFits (record { kept = kept; changes = tt }) (record { kept = kept; changes = tt })

  then_fold_of : (turn : Turn) → TurnFits turn → TurnFits (then_fold shape turn)
  then_fold_of turn of =
      either_way (folds shape turn.memory)
      (record { memory = after_fold turn.memory (fold_number shape turn.memory); outs = turn.outs; changes = turn.changes ++ FoldsTo (fold_number shape turn.memory) ∷ [] }) turn TurnFits
      (record { kept = of.kept; changes = all_both ChangeFits turn.changes (FoldsTo (fold_number shape turn.memory) ∷ []) of.changes (tt, tt) }) of

  by_claim_of : (name : NodeName) (claim : Committed) (m : Memory) → KeptFits m.replica → TurnFits (by_claim shape name claim m)
  unfolding by_claim
  by_claim_of name claim m kept =
      let turn : Turn = then_claims shape (quiet (with_leader m (record m.leader { claims = with_claim m.leader.claims name claim.front }))) in
      either_way (claim.session == m.replica.session) (then_fold shape turn) (quiet m) TurnFits (then_fold_of turn (record { kept = kept; changes = tt })) (record { kept = kept; changes = tt })

  by_tick_of : (m : Memory) → KeptFits m.replica → TurnFits (by_tick shape m)
  unfolding by_tick
  by_tick_of m kept = record { kept = kept; changes = tt }

  in_session_of : (node : NodeState) (rule : Memory → Turn) → MemoryFits node.memory → ((m : Memory) → KeptFits m.replica → TurnFits (rule m)) → PlanFits (in_session node rule)
  in_session_of node rule kept of =
      some_way (λ m. KeptFits m.replica) PlanFits (λ m. plan_of (rule m)) (ignored node) node.memory kept
      (λ m k. record { kept = (of m k).kept; changes = (of m k).changes }) (record { kept = kept; changes = tt })

  by_gather_of : (node : NodeState) (e : ℕ) → MemoryFits node.memory → PlanFits (by_gather node e)
  unfolding by_gather
  by_gather_of node e kept =
      either_way (is_carried node.held) (told_client node (message.Gathered (record { session = e; held = node.held }))) (ignored node) PlanFits (record { kept = kept; changes = tt }) (record { kept = kept; changes = tt })

  staged_anew_of : (node : NodeState) (base : Base) → MemoryFits node.memory → OfBase base.rec → PlanFits (staged_anew shape node base)
  staged_anew_of node base kept given =
      let none : PlanFits (ignored node) = record { kept = kept; changes = tt } in
      either_way (length base.blocks == 0) (option_map_or (λ m. staged_from shape node base.rec m) node.memory (ignored node)) (staged_whole shape node base) PlanFits
      (some_way (λ m. KeptFits m.replica) PlanFits (λ m. staged_from shape node base.rec m) (ignored node) node.memory kept
      (λ m k. either_way (bytes_eq (view_root shape m.replica.view) base.rec.header.root) (staged node base.rec m.replica.view.blocks) (ignored node) PlanFits
      (record { kept = kept; changes = (record { given = given; whole = k.whole }, tt) }) none) none)
      (way_with (has_shape shape base.blocks && bytes_eq (root_of shape.height base.blocks) base.rec.header.root) (staged node base.rec base.blocks) (ignored node) PlanFits
      (λ pass. record { kept = kept; changes = (record { given = given; whole = closed.shaped base.blocks (and_left (has_shape shape base.blocks) (bytes_eq (root_of shape.height base.blocks) base.rec.header.root) pass) }, tt) }) (λ fail. none))

  by_stage_of : (g : ℕ) (node : NodeState) (base : Base) → MemoryFits node.memory → OfBase base.rec → PlanFits (by_stage shape g node base)
  unfolding by_stage
  by_stage_of g node base kept given =
      let none : PlanFits (ignored node) = record { kept = kept; changes = tt } in
      either_way (is_staged_here g node base.rec.header)
      (option_map_or (λ held. staged_again node base.rec held) (base_held shape g base.rec.header.session node.held) (staged_anew shape node base)) (ignored node) PlanFits
      (any_way PlanFits (λ held. staged_again node base.rec held) (staged_anew shape node base) (base_held shape g base.rec.header.session node.held)
      (λ held. either_way (same_record held.rec base.rec) (says_staged node base.rec.header.session) (ignored node) PlanFits (record { kept = kept; changes = tt }) none)
      (staged_anew_of node base kept given)) none

  tried_whole : (g : ℕ) (parts : List Record) (view : View) → Whole view.blocks → AllByRecursion (PartFits shape OfPart) parts → Whole (all_tried shape g view parts).view.blocks
  unfolding all_tried
  tried_whole g [] view shaped all = shaped
  tried_whole g (rec ∷ parts) view shaped all =
      either_way (goes_on shape g view rec) (counted rec (all_tried shape g (view_after shape view rec) parts)) (all_tried shape g view parts) (λ t. Whole t.view.blocks)
      (tried_whole g parts (view_after shape view rec) (closed.after view.blocks rec shaped all.0) all.1) (tried_whole g parts view shaped all.1)

  open_base_fits : (g : ℕ) (held : Held) → HeldFits shape OfPart OfBase Whole held → OfSome (BaseFits OfBase Whole) (open_base shape g held)
  open_base_fits g held of =
      either_way (held.session == 0) None (base_held shape g held.session held) (OfSome (BaseFits OfBase Whole)) tt (found_of_all (BaseFits OfBase Whole) (λ base. stands_for shape g held.session base) held.bases of.bases)

  pub fresh_of : (g : ℕ) (held : Held) → HeldFits shape OfPart OfBase Whole held → MemoryFits (loaded_as shape g held).memory
  unfolding loaded_as
  fresh_of g held of = mapped_of (open_base shape g held) (open_base_fits g held of) where
    mapped_of : (o : Option Base) → OfSome (BaseFits OfBase Whole) o → MemoryFits (option_map (λ base. memory_of shape g held base) o)
    mapped_of None fits = tt
    mapped_of (Some base) fits = record {
      whole = tried_whole g (open_parts held) (view_of_base base) fits.whole (all_filter (PartFits shape OfPart) (λ rec. rec.header.session == held.session) held.parts of.parts);
      early = tt;
    }

  pub switched_of : (held : Held) (e : ℕ) → HeldFits shape OfPart OfBase Whole held → HeldFits shape OfPart OfBase Whole (changed shape held (SwitchesTo e))
  unfolding changed
  switched_of held e of = record {
    bases = all_filter (BaseFits OfBase Whole) (λ base. nat_le e base.rec.header.session) held.bases of.bases;
    parts = all_filter (PartFits shape OfPart) (λ rec. nat_le e rec.header.session) held.parts of.parts;
  }

  by_switch_of : (g : ℕ) (node : NodeState) (e : ℕ) → HeldFits shape OfPart OfBase Whole node.held → MemoryFits node.memory → PlanFits (by_switch shape g node e)
  unfolding by_switch
  by_switch_of g node e of kept =
      let none : PlanFits (ignored node) = record { kept = kept; changes = tt } in
      either_way (e == node.held.session) (says_switched node e) (if nat_lt node.held.session e then option_map_or (λ base. switched shape g node e) (base_held shape g e node.held) (ignored node) else ignored node) PlanFits
      (record { kept = kept; changes = tt })
      (either_way (nat_lt node.held.session e) (option_map_or (λ base. switched shape g node e) (base_held shape g e node.held) (ignored node)) (ignored node) PlanFits
      (any_way PlanFits (λ base. switched shape g node e) (ignored node) (base_held shape g e node.held)
      (λ base. record { kept = fresh_of g (changed shape node.held (SwitchesTo e)) (switched_of node.held e of); changes = (tt, tt) }) none) none)

  from_client_of : (g : ℕ) (node : NodeState) (m : Message) → HeldFits shape OfPart OfBase Whole node.held → MemoryFits node.memory → MessageGiven OfPart OfBase m → PlanFits (from_client shape g node m)
  from_client_of g node (message.Part m) held kept good = in_session_of node (by_part shape g m.rec) kept (λ k of. by_part_of g m.rec k of good)
  from_client_of g node (message.Ask m) held kept good = in_session_of node (by_ask shape g m) kept (by_ask_of g m)
  from_client_of g node (message.Gather m) held kept good = by_gather_of node m.session kept
  from_client_of g node (message.Stage m) held kept good = by_stage_of g node m.base kept good
  from_client_of g node (message.Switch m) held kept good = by_switch_of g node m.session held kept
  from_client_of g node (message.Dump m) held kept good = in_session_of node (by_dump g m) kept (by_dump_of g m)
  from_client_of g node (message.Prepared m) held kept good = record { kept = kept; changes = tt }
  from_client_of g node (message.Committed m) held kept good = record { kept = kept; changes = tt }
  from_client_of g node (message.Answer m) held kept good = record { kept = kept; changes = tt }
  from_client_of g node (message.Gathered m) held kept good = record { kept = kept; changes = tt }
  from_client_of g node (message.Staged m) held kept good = record { kept = kept; changes = tt }
  from_client_of g node (message.Switched m) held kept good = record { kept = kept; changes = tt }
  from_client_of g node (message.Dumped m) held kept good = record { kept = kept; changes = tt }

  from_node_of : (node : NodeState) (name : NodeName) (m : Message) → MemoryFits node.memory → PlanFits (from_node shape node name m)
  from_node_of node name (message.Prepared m) kept = in_session_of node (by_vote shape name m) kept (by_vote_of name m)
  from_node_of node name (message.Committed m) kept = in_session_of node (by_claim shape name m) kept (by_claim_of name m)
  from_node_of node name (message.Part m) kept = record { kept = kept; changes = tt }
  from_node_of node name (message.Ask m) kept = record { kept = kept; changes = tt }
  from_node_of node name (message.Answer m) kept = record { kept = kept; changes = tt }
  from_node_of node name (message.Gather m) kept = record { kept = kept; changes = tt }
  from_node_of node name (message.Gathered m) kept = record { kept = kept; changes = tt }
  from_node_of node name (message.Stage m) kept = record { kept = kept; changes = tt }
  from_node_of node name (message.Staged m) kept = record { kept = kept; changes = tt }
  from_node_of node name (message.Switch m) kept = record { kept = kept; changes = tt }
  from_node_of node name (message.Switched m) kept = record { kept = kept; changes = tt }
  from_node_of node name (message.Dump m) kept = record { kept = kept; changes = tt }
  from_node_of node name (message.Dumped m) kept = record { kept = kept; changes = tt }

  from_sender_of : (g : ℕ) (node : NodeState) (from : Sender) (m : Message) → HeldFits shape OfPart OfBase Whole node.held → MemoryFits node.memory → FromGiven OfPart OfBase from m → PlanFits (from_sender shape g node from m)
  from_sender_of g node sender.Client m held kept good = from_client_of g node m held kept good
  from_sender_of g node (sender.Node name) m held kept good =
      either_way (is_node shape name) (from_node shape node name m) (ignored node) PlanFits (from_node_of node name m kept) (record { kept = kept; changes = tt })

  from_result_of : (g : ℕ) (node : NodeState) (from : Sender) (r : Result Message MessageError) → HeldFits shape OfPart OfBase Whole node.held → MemoryFits node.memory → ResultGiven from r → PlanFits (from_result shape g node from r)
  from_result_of g node from (Ok m) held kept good = from_sender_of g node from m held kept good
  from_result_of g node from (Err e) held kept good = record { kept = kept; changes = tt }

  pub planned_of : (g : ℕ) (node : NodeState) (input : Input) → HeldFits shape OfPart OfBase Whole node.held → MemoryFits node.memory → InputGiven input → PlanFits (planned shape g node input)
  unfolding planned
  planned_of g node (Receives from bytes) held kept good = from_result_of g node from (message_at bytes) held kept good
  planned_of g node Ticks held kept good = in_session_of node (by_tick shape) kept by_tick_of

  -- ---- what is held

  base_after_fits : (base : Base) (parts : List Record) → BaseFits OfBase Whole base → AllByRecursion (PartFits shape OfPart) parts → BaseFits OfBase Whole (base_after_all shape base parts)
  unfolding base_after_all
  base_after_fits base [] good all = good
  base_after_fits base (rec ∷ parts) good all = base_after_fits (base_after shape base rec) parts (record { given = closed.folds rec all.0.given; whole = closed.after base.blocks rec good.whole all.0 }) all.1

  bases_after_fit : (parts : List Record) (bases : List Base) → AllByRecursion (PartFits shape OfPart) parts → AllByRecursion (BaseFits OfBase Whole) bases → AllByRecursion (BaseFits OfBase Whole) (map (λ base. base_after_all shape base parts) bases)
  bases_after_fit parts [] all of = tt
  bases_after_fit parts (base ∷ bases) all of = (base_after_fits base parts of.0 all, bases_after_fit parts bases all of.1)

  folded_of : (held : Held) (n : ℕ) (parts : List Record) → HeldFits shape OfPart OfBase Whole held → HeldFits shape OfPart OfBase Whole (folded shape held n parts)
  folded_of held n [] of = of
  folded_of held n (rec ∷ parts) of =
      let first : List Base = filter (λ base. is_open_base held base) held.bases in
      let gone : List Record = filter (λ rec. is_folded held n rec) held.parts in
      record {
        bases = all_both (BaseFits OfBase Whole) (map (λ base. base_after_all shape base gone) first) (filter (λ base. nat_lt held.session base.rec.header.session) held.bases)
            (bases_after_fit gone first (all_filter (PartFits shape OfPart) (λ rec. is_folded held n rec) held.parts of.parts) (all_filter (BaseFits OfBase Whole) (λ base. is_open_base held base) held.bases of.bases))
            (all_filter (BaseFits OfBase Whole) (λ base. nat_lt held.session base.rec.header.session) held.bases of.bases);
        parts = all_filter (PartFits shape OfPart) (λ rec. not (is_folded held n rec)) held.parts of.parts;
      }

  changed_of : (held : Held) (change : Change) → HeldFits shape OfPart OfBase Whole held → ChangeFits change → HeldFits shape OfPart OfBase Whole (changed shape held change)
  unfolding changed
  changed_of held (AddsPart rec) of good = record { bases = of.bases; parts = all_both (PartFits shape OfPart) held.parts (rec ∷ []) of.parts (good, tt) }
  changed_of held (AddsBase base) of good = record { bases = all_both (BaseFits OfBase Whole) held.bases (base ∷ []) of.bases (good, tt); parts = of.parts }
  changed_of held (SwitchesTo e) of good = record {
    bases = all_filter (BaseFits OfBase Whole) (λ base. nat_le e base.rec.header.session) held.bases of.bases;
    parts = all_filter (PartFits shape OfPart) (λ rec. nat_le e rec.header.session) held.parts of.parts;
  }
  changed_of held (FoldsTo n) of good = folded_of held n (filter (λ rec. is_folded held n rec) held.parts) of

  after_changes_of : (held : Held) (changes : List Change) → HeldFits shape OfPart OfBase Whole held → ChangesFit changes → HeldFits shape OfPart OfBase Whole (after_changes shape held changes)
  unfolding after_changes
  after_changes_of held [] of good = of
  after_changes_of held (change ∷ changes) of good = after_changes_of (changed shape held change) changes (changed_of held change of good.0) good.1

  pub contents_through_of : (held : Held) (changes : List Change) → HeldFits shape OfPart OfBase Whole held → ChangesFit changes → AllByRecursion (HeldFits shape OfPart OfBase Whole) (contents_through shape held changes)
  unfolding contents_through
  contents_through_of held [] of good = (of, tt)
  contents_through_of held (change ∷ changes) of good = (of, contents_through_of (changed shape held change) changes (changed_of held change of good.0) good.1)

  pub handled_of : (g : ℕ) (node : NodeState) (input : Input) → HeldFits shape OfPart OfBase Whole node.held → MemoryFits node.memory → InputGiven input → HeldFits shape OfPart OfBase Whole (handled shape g node input).node.held
  handled_of g node input of kept good = after_changes_of node.held (planned shape g node input).changes of (planned_of g node input of kept good).changes
