-- A view's number is below a bound where the numbers of all records are.
use Rattle.std.proofs.Common.{◌≡◌, ℕ, zero, suc, ◌<◌, ◌==◌, not, nat_lt, nat_le, if◌then◌else◌, List, [], ◌∷◌, ◌++◌, length, Option, None, Some, sym, subst}
use Rattle.std.specs.Prelude.{option_map}
use Rattle.std.specs.Option.{option_map_or}
use Rattle.std.specs.List.{AllByRecursion}
use Rattle.salus_types.specs.Volume.{Shape}
use Rattle.salus_types.specs.declared.records.Record.{Record}
use Rattle.salus_types.specs.declared.records.Base.{Base}
use Rattle.salus_types.specs.declared.records.Held.{Held}
use Rattle.salus_message.specs.declared.small.Ask.{Ask}
use Rattle.holding_model.specs.Changing.{SwitchesTo, changed}
use Rattle.replica_rules.specs.Views.{View, view_of_base, view_after, view_root, is_accepted}
use Rattle.replica_rules.specs.Replicas.{Replica, with_view, PartAnswer, Foreign, Known, Early, Full, Differs, Next, PartTaken, left_as, is_for, has_early, kept_early, tried, take_part, KeptTaken, next_kept, without_kept, take_out, take_kept, Applied, no_more, after_part, kept_in_turn, take_ask, AskTaken, is_asked_here, is_due, answer_to, with_ask}
use Rattle.replica_rules.specs.Nodes.{Memory, NodeState, stands_for, base_held, goes_on, counted, all_tried, open_parts, memory_of, open_base, loaded_as}
use Rattle.replica_rules.specs.Rules.{Turn, Plan, plan_of, ignored, part_answered, by_part, ask_taken, by_ask, by_dump, by_vote, by_claim, by_tick, by_gather, by_stage, says_switched, switched, by_switch, Input, planned}
use Rattle.list_lemmas.proofs.Each.{either_way, all_both, all_filter, OfSome, found_of_all, some_way, any_way}
use Rattle.law_answers.proofs.Rules.{OfInput, planned_with}
use Rattle.law_answers.proofs.Asks.{vote_replica, claim_replica, dump_replica, tick_replica, gather_memory, stage_memory}

module _ (shape : Shape) (top : ℕ) where
  abbrev pub IsLow : Record → Type 0
  IsLow rec = rec.header.seq < top

  -- the records of bases and parts that are held
  pub record HeldLow (held : Held) : Type 0 where
    pub bases : AllByRecursion (λ base. IsLow base.rec) held.bases
    pub parts : AllByRecursion IsLow held.parts

  pub record ReplicaLow (r : Replica) : Type 0 where
    pub view : r.view.number < top
    pub early : AllByRecursion IsLow r.early

  abbrev pub MemoryLow : Option Memory → Type 0
  MemoryLow memory = OfSome (λ m. ReplicaLow m.replica) memory

  -- ---- a part

  early_low : (r : Replica) (rec : Record) → ReplicaLow r → IsLow rec → ReplicaLow (kept_early r rec).replica
  early_low r rec low good =
      either_way (has_early r.early rec.header.previous) (left_as r Early) (if nat_lt (length r.early) 16 then left_as (record r { early = r.early ++ rec ∷ [] }) Early else left_as r Full) (λ (t : PartTaken). ReplicaLow t.replica) low
      (either_way (nat_lt (length r.early) 16) (left_as (record r { early = r.early ++ rec ∷ [] }) Early) (left_as r Full) (λ (t : PartTaken). ReplicaLow t.replica)
      (record { view = low.view; early = all_both IsLow r.early (rec ∷ []) low.early (good, tt) }) low)

  tried_low : (r : Replica) (rec : Record) → ReplicaLow r → IsLow rec → ReplicaLow (tried shape r rec).replica
  tried_low r rec low good =
      either_way (is_accepted shape r.view rec) (left_as (with_view r (view_after shape r.view rec)) Next) (left_as r (Differs rec.header.root (view_root shape (view_after shape r.view rec))))
      (λ (t : PartTaken). ReplicaLow t.replica) (record { view = good; early = low.early }) low

  taken_low : (g : ℕ) (r : Replica) (rec : Record) → ReplicaLow r → IsLow rec → ReplicaLow (take_part shape g r rec).replica
  unfolding take_part
  taken_low g r rec low good =
      let P : PartTaken → Type 0 = λ t. ReplicaLow t.replica in
      either_way (not (is_for shape g r rec)) (left_as r Foreign) (if nat_le rec.header.seq r.view.number then left_as r Known else (if rec.header.previous == r.view.number then tried shape r rec else kept_early r rec)) P low
      (either_way (nat_le rec.header.seq r.view.number) (left_as r Known) (if rec.header.previous == r.view.number then tried shape r rec else kept_early r rec) P low
      (either_way (rec.header.previous == r.view.number) (tried shape r rec) (kept_early r rec) P (tried_low r rec low good) (early_low r rec low good)))

  out_low : (r : Replica) (rec : Record) → ReplicaLow r → IsLow rec → ReplicaLow (take_out shape r rec).replica
  out_low r rec low good =
      let less : AllByRecursion IsLow (without_kept r).early = all_filter IsLow (λ (e : Record). not (e.header.previous == r.view.number)) r.early low.early in
      either_way (is_accepted shape r.view rec) (record { replica = with_view (without_kept r) (view_after shape r.view rec); part = Some rec }) (record { replica = without_kept r; part = None })
      (λ (t : KeptTaken). ReplicaLow t.replica) (record { view = good; early = less }) (record { view = low.view; early = less })

  kept_low : (r : Replica) → ReplicaLow r → ReplicaLow (take_kept shape r).replica
  unfolding take_kept
  kept_low r low =
      some_way IsLow (λ (t : KeptTaken). ReplicaLow t.replica) (λ rec. take_out shape r rec) (record { replica = r; part = None }) (next_kept r)
      (found_of_all IsLow (λ (e : Record). e.header.previous == r.view.number) r.early low.early) (λ rec good. out_low r rec low good) low

  turns_low : (n : ℕ) (r : Replica) → ReplicaLow r → ReplicaLow (kept_in_turn shape n r).replica
  unfolding kept_in_turn
  turns_low zero r low = low
  turns_low (suc n) r low =
      let next : Replica = (take_kept shape r).replica in
      any_way (λ (t : Applied). ReplicaLow t.replica) (λ rec. after_part rec (kept_in_turn shape n next)) (no_more next) (take_kept shape r).part
      (λ rec. turns_low n next (kept_low r low)) (kept_low r low)

  answered_low : (g : ℕ) (m : Memory) (rec : Record) (r : Replica) (answer : PartAnswer) → ReplicaLow m.replica → ReplicaLow r → ReplicaLow (part_answered shape g m rec r answer).memory.replica
  answered_low g m rec r Next low next = turns_low (length r.early) r next
  answered_low g m rec r Known low next = low
  answered_low g m rec r Early low next = next
  answered_low g m rec r Foreign low next = low
  answered_low g m rec r Full low next = low
  answered_low g m rec r (Differs root got) low next = low

  part_low : (g : ℕ) (rec : Record) (m : Memory) → IsLow rec → ReplicaLow m.replica → ReplicaLow (by_part shape g rec m).memory.replica
  unfolding by_part
  part_low g rec m good low =
      let t : PartTaken = take_part shape g m.replica rec in
      let after : ReplicaLow (part_answered shape g m rec t.replica t.answer).memory.replica = answered_low g m rec t.replica t.answer low (taken_low g m.replica rec low good) in
      record { view = after.view; early = after.early }

  ask_low : (g : ℕ) (a : Ask) (m : Memory) → ReplicaLow m.replica → ReplicaLow (by_ask shape g a m).memory.replica
  unfolding by_ask take_ask
  ask_low g a m low =
      let r : Replica = m.replica in
      let P : AskTaken → Type 0 = λ t. ReplicaLow (ask_taken m t).memory.replica in
      either_way (not (is_asked_here shape g r a)) (record { replica = r; answer = None })
      (if is_due r.view a then record { replica = r; answer = Some (answer_to shape r.view a) } else record { replica = record r { asks = with_ask r.asks a }; answer = None }) P low
      (either_way (is_due r.view a) (record { replica = r; answer = Some (answer_to shape r.view a) }) (record { replica = record r { asks = with_ask r.asks a }; answer = None }) P low
      (record { view = low.view; early = low.early }))

  -- ---- a load

  tried_number : (g : ℕ) (parts : List Record) (view : View) → view.number < top → AllByRecursion IsLow parts → (all_tried shape g view parts).view.number < top
  unfolding all_tried
  tried_number g [] view low all = low
  tried_number g (rec ∷ parts) view low all =
      either_way (goes_on shape g view rec) (counted rec (all_tried shape g (view_after shape view rec) parts)) (all_tried shape g view parts) (λ t. t.view.number < top)
      (tried_number g parts (view_after shape view rec) all.0 all.1) (tried_number g parts view low all.1)

  open_base_low : (g : ℕ) (held : Held) → HeldLow held → OfSome (λ base. IsLow base.rec) (open_base shape g held)
  open_base_low g held low =
      either_way (held.session == 0) None (base_held shape g held.session held) (OfSome (λ base. IsLow base.rec)) tt
      (found_of_all (λ base. IsLow base.rec) (λ base. stands_for shape g held.session base) held.bases low.bases)

  pub fresh_low : (g : ℕ) (held : Held) → HeldLow held → MemoryLow (loaded_as shape g held).memory
  unfolding loaded_as
  fresh_low g held low = mapped (open_base shape g held) (open_base_low g held low) where
    mapped : (o : Option Base) → OfSome (λ base. IsLow base.rec) o → MemoryLow (option_map (λ base. memory_of shape g held base) o)
    mapped None good = tt
    mapped (Some base) good = record {
      view = tried_number g (open_parts held) (view_of_base base) good (all_filter IsLow (λ rec. rec.header.session == held.session) held.parts low.parts);
      early = tt;
    }

  switched_low : (held : Held) (e : ℕ) → HeldLow held → HeldLow (changed shape held (SwitchesTo e))
  unfolding changed
  switched_low held e low = record {
    bases = all_filter (λ base. IsLow base.rec) (λ base. nat_le e base.rec.header.session) held.bases low.bases;
    parts = all_filter IsLow (λ rec. nat_le e rec.header.session) held.parts low.parts;
  }

  -- ---- every rule

  module _ (g : ℕ) (node : NodeState) (held : HeldLow node.held) (there : MemoryLow node.memory) where
    abbrev Low : Plan → Type 0
    Low plan = MemoryLow plan.memory

    as_before : (plan : Plan) → plan.memory ≡ node.memory → Low plan
    as_before plan same = subst (λ (o : Option Memory). MemoryLow o) (sym same) there

    as_same : (t : Turn) (m : Memory) → t.memory.replica ≡ m.replica → ReplicaLow m.replica → Low (plan_of t)
    as_same t m same low = subst (λ (r : Replica). ReplicaLow r) (sym same) low

    switch_low : (e : ℕ) → Low (by_switch shape g node e)
    unfolding by_switch
    switch_low e =
        either_way (e == node.held.session) (says_switched node e) (if nat_lt node.held.session e then option_map_or (λ base. switched shape g node e) (base_held shape g e node.held) (ignored node) else ignored node) Low there
        (either_way (nat_lt node.held.session e) (option_map_or (λ base. switched shape g node e) (base_held shape g e node.held) (ignored node)) (ignored node) Low
        (any_way Low (λ base. switched shape g node e) (ignored node) (base_held shape g e node.held) (λ base. fresh_low g (changed shape node.held (SwitchesTo e)) (switched_low node.held e held)) there) there)

    pub planned_low : (input : Input) → OfInput IsLow (λ a. Unit {0}) input → Low (planned shape g node input)
    planned_low input given =
        planned_with shape g node (λ m. ReplicaLow m.replica) there IsLow (λ a. Unit {0}) Low there
        (λ rec m good low. part_low g rec m good low)
        (λ a m good low. ask_low g a m low)
        (λ d m low. as_same (by_dump g d m) m (dump_replica shape g node d m) low)
        (λ name v m low. as_same (by_vote shape name v m) m (vote_replica shape g node name v m) low)
        (λ name c m low. as_same (by_claim shape name c m) m (claim_replica shape g node name c m) low)
        (λ m low. as_same (by_tick shape m) m (tick_replica shape g node m) low)
        (λ e. as_before (by_gather node e) (gather_memory shape g node e))
        (λ base. as_before (by_stage shape g node base) (stage_memory shape g node base))
        switch_low input given
