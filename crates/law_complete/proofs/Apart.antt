-- Of one previous number a node keeps at most one part until its turn, after any steps.
use Rattle.std.proofs.Common.{◌≡◌, ℕ, zero, suc, ◌==◌, not, nat_le, nat_lt, Bool, false, if◌then◌else◌, List, [], ◌∷◌, ◌++◌, length, Option, None, Some, sym, subst}
use Rattle.std.specs.Prelude.{filter, option_map, Result, Ok, Err}
use Rattle.std.specs.Option.{option_map_or}
use Rattle.std.specs.List.{AllByRecursion}
use Rattle.std.proofs.lemmas.Bool.{or_parts}
use Rattle.salus_types.specs.Volume.{Shape}
use Rattle.salus_types.specs.declared.names.NodeName.{NodeName}
use Rattle.salus_types.specs.declared.names.Sender.{Sender}
use Rattle.salus_types.specs.declared.names.Sender.TheVariants as sender
use Rattle.salus_types.specs.declared.records.Record.{Record}
use Rattle.salus_types.specs.declared.records.Base.{Base}
use Rattle.salus_types.specs.declared.records.Held.{Held}
use Rattle.salus_message.specs.declared.small.Ask.{Ask}
use Rattle.salus_message.specs.declared.wire.Message.{Message}
use Rattle.salus_message.specs.declared.wire.Message.TheVariants as message
use Rattle.salus_message.specs.declared.wire.MessageError.{MessageError}
use Rattle.salus_message.specs.Reading.{message_at}
use Rattle.salus_model.specs.declared.trace.Handed.{Handed}
use Rattle.salus_model.specs.declared.trace.TraceStep.{TraceStep}
use Rattle.salus_model.specs.Following.{Posted}
use Rattle.holding_model.specs.Changing.{SwitchesTo, changed}
use Rattle.replica_rules.specs.Views.{view_after, view_root, is_accepted}
use Rattle.replica_rules.specs.Replicas.{Replica, with_view, Foreign, Known, Early, Full, Differs, Next, PartTaken, left_as, is_for, has_early, kept_early, tried, take_part, KeptTaken, next_kept, without_kept, take_out, take_kept, Applied, no_more, after_part, kept_in_turn, take_ask, AskTaken, is_asked_here, is_due, answer_to, with_ask}
use Rattle.replica_rules.specs.Nodes.{Memory, NodeState, base_held, memory_of, open_base, loaded_as}
use Rattle.replica_rules.specs.Rules.{Turn, Plan, plan_of, ignored, part_answered, by_part, ask_taken, by_ask, by_gather, by_stage, by_dump, by_vote, by_claim, by_tick, says_switched, switched, by_switch, Input, Receives, Ticks, planned, handled}
use Rattle.run_rules.specs.Knowing.{KnownNode, speaking, silenced, after_handling, after_input, input_of, after_handed, reloaded, known_to}
use Rattle.run_rules.specs.Running.{addresses, after, known_of}
use Rattle.list_lemmas.proofs.Each.{either_way, all_both, all_filter, any_way, OfSome}
use Rattle.list_lemmas.proofs.Tests.{way_with}
use Rattle.law_answers.proofs.Rules.{OfMessage, OfResult, OfInput, planned_with}
use Rattle.law_answers.proofs.Asks.{vote_replica, claim_replica, dump_replica, tick_replica, gather_memory, stage_memory}

-- no two of these parts go on from one number
unfoldable pub AreApart : List Record → Type 0
AreApart [] = Unit {0}
AreApart (rec ∷ recs) = AllByRecursion (λ (other : Record). (rec.header.previous == other.header.previous) ≡ false) recs × AreApart recs

-- so of the parts that a node keeps until their turn, if it has a view
abbrev pub KeepsApart : Option Memory → Type 0
KeepsApart memory = OfSome (λ (m : Memory). AreApart m.replica.early) memory

one_more : (early : List Record) (rec : Record) → AreApart early → has_early early rec.header.previous ≡ false → AreApart (early ++ rec ∷ [])
unfolding AreApart
one_more [] rec apart none = (tt, tt)
one_more (x ∷ early) rec apart none =
    let parts = or_parts (x.header.previous == rec.header.previous) (has_early early rec.header.previous) none in
    (all_both (λ (other : Record). (x.header.previous == other.header.previous) ≡ false) early (rec ∷ []) apart.0 (parts.0, tt), one_more early rec apart.1 parts.1)

some_left : (test : Record → Bool) (early : List Record) → AreApart early → AreApart (filter test early)
unfolding AreApart
some_left test [] apart = tt
some_left test (x ∷ early) apart =
    either_way (test x) (x ∷ filter test early) (filter test early) AreApart
    (all_filter (λ (other : Record). (x.header.previous == other.header.previous) ≡ false) test early apart.0, some_left test early apart.1) (some_left test early apart.1)

module _ (shape : Shape) where
  -- ---- the kept parts in their turn

  one_taken : (r : Replica) → AreApart r.early → AreApart (take_kept shape r).replica.early
  unfolding take_kept
  one_taken r apart =
      let P : KeptTaken → Type 0 = λ t. AreApart t.replica.early in
      let left : AreApart (without_kept r).early = some_left (λ rec. not (rec.header.previous == r.view.number)) r.early apart in
      any_way P (λ rec. take_out shape r rec) (record { replica = r; part = None }) (next_kept r)
      (λ rec. either_way (is_accepted shape r.view rec) (record { replica = with_view (without_kept r) (view_after shape r.view rec); part = Some rec }) (record { replica = without_kept r; part = None }) P left left) apart

  all_taken_out : (n : ℕ) (r : Replica) → AreApart r.early → AreApart (kept_in_turn shape n r).replica.early
  unfolding kept_in_turn
  all_taken_out zero r apart = apart
  all_taken_out (suc n) r apart =
      let t : KeptTaken = take_kept shape r in
      let left : AreApart t.replica.early = one_taken r apart in
      any_way (λ (a : Applied). AreApart a.replica.early) (λ rec. after_part rec (kept_in_turn shape n t.replica)) (no_more t.replica) t.part (λ rec. all_taken_out n t.replica left) left

  -- ---- a load

  pub loaded_apart : (g : ℕ) (held : Held) → KeepsApart (loaded_as shape g held).memory
  unfolding loaded_as AreApart
  loaded_apart g held = by (open_base shape g held) where
    by : (o : Option Base) → KeepsApart (option_map (λ base. memory_of shape g held base) o)
    by None = tt
    by (Some base) = tt

  module _ (g : ℕ) where
    -- ---- a part

    part_apart : (rec : Record) (m : Memory) → AreApart m.replica.early → AreApart (by_part shape g rec m).memory.replica.early
    unfolding by_part take_part
    part_apart rec m apart =
        let r : Replica = m.replica in
        let P : PartTaken → Type 0 = λ t. AreApart (part_answered shape g m rec t.replica t.answer).memory.replica.early in
        let next : Replica = with_view r (view_after shape r.view rec) in
        let more : Replica = record r { early = r.early ++ rec ∷ [] } in
        either_way (not (is_for shape g r rec)) (left_as r Foreign) (if nat_le rec.header.seq r.view.number then left_as r Known else (if rec.header.previous == r.view.number then tried shape r rec else kept_early r rec)) P apart
        (either_way (nat_le rec.header.seq r.view.number) (left_as r Known) (if rec.header.previous == r.view.number then tried shape r rec else kept_early r rec) P apart
        (either_way (rec.header.previous == r.view.number) (tried shape r rec) (kept_early r rec) P
        (either_way (is_accepted shape r.view rec) (left_as next Next) (left_as r (Differs rec.header.root (view_root shape (view_after shape r.view rec)))) P (all_taken_out (length r.early) next apart) apart)
        (way_with (has_early r.early rec.header.previous) (left_as r Early) (if nat_lt (length r.early) 16 then left_as more Early else left_as r Full) P (λ _. apart)
        (λ none. either_way (nat_lt (length r.early) 16) (left_as more Early) (left_as r Full) P (one_more r.early rec apart none) apart))))

    ask_apart : (ask : Ask) (m : Memory) → AreApart m.replica.early → AreApart (by_ask shape g ask m).memory.replica.early
    unfolding by_ask take_ask
    ask_apart ask m apart =
        let r : Replica = m.replica in
        let P : AskTaken → Type 0 = λ t. AreApart (ask_taken m t).memory.replica.early in
        either_way (not (is_asked_here shape g r ask)) (record { replica = r; answer = None })
        (if is_due r.view ask then record { replica = r; answer = Some (answer_to shape r.view ask) } else record { replica = record r { asks = with_ask r.asks ask }; answer = None }) P apart
        (either_way (is_due r.view ask) (record { replica = r; answer = Some (answer_to shape r.view ask) }) (record { replica = record r { asks = with_ask r.asks ask }; answer = None }) P apart apart)

    -- ---- every rule

    none_given : (m : Message) → OfMessage (λ rec. Unit {0}) (λ a. Unit {0}) m
    none_given (message.Part m) = tt
    none_given (message.Ask m) = tt
    none_given (message.Gather m) = tt
    none_given (message.Stage m) = tt
    none_given (message.Switch m) = tt
    none_given (message.Dump m) = tt
    none_given (message.Prepared m) = tt
    none_given (message.Committed m) = tt
    none_given (message.Answer m) = tt
    none_given (message.Gathered m) = tt
    none_given (message.Staged m) = tt
    none_given (message.Switched m) = tt
    none_given (message.Dumped m) = tt

    none_read : (from : Sender) (r : Result Message MessageError) → OfResult (λ rec. Unit {0}) (λ a. Unit {0}) from r
    none_read sender.Client (Ok m) = none_given m
    none_read (sender.Node name) (Ok m) = tt
    none_read from (Err e) = tt

    none_brought : (input : Input) → OfInput (λ rec. Unit {0}) (λ a. Unit {0}) input
    none_brought (Receives from bytes) = none_read from (message_at bytes)
    none_brought Ticks = tt

    module _ (node : NodeState) (apart : KeepsApart node.memory) where
      abbrev Keeps : Plan → Type 0
      Keeps plan = KeepsApart plan.memory

      as_same : (rule : Memory → Turn) → ((k : Memory) → (rule k).memory.replica ≡ k.replica) → (k : Memory) → AreApart k.replica.early → Keeps (plan_of (rule k))
      as_same rule same k of = subst (λ (r : Replica). AreApart r.early) (sym (same k)) of

      as_before : (plan : Plan) → plan.memory ≡ node.memory → Keeps plan
      as_before plan same = subst KeepsApart (sym same) apart

      switch_apart : (e : ℕ) → Keeps (by_switch shape g node e)
      unfolding by_switch
      switch_apart e =
          either_way (e == node.held.session) (says_switched node e) (if nat_lt node.held.session e then option_map_or (λ base. switched shape g node e) (base_held shape g e node.held) (ignored node) else ignored node) Keeps apart
          (either_way (nat_lt node.held.session e) (option_map_or (λ base. switched shape g node e) (base_held shape g e node.held) (ignored node)) (ignored node) Keeps
          (any_way Keeps (λ base. switched shape g node e) (ignored node) (base_held shape g e node.held) (λ base. loaded_apart g (changed shape node.held (SwitchesTo e))) apart) apart)

      planned_apart : (input : Input) → Keeps (planned shape g node input)
      planned_apart input =
          planned_with shape g node (λ k. AreApart k.replica.early) apart (λ rec. Unit {0}) (λ a. Unit {0}) Keeps apart
          (λ rec k given of. part_apart rec k of)
          (λ a k given of. ask_apart a k of)
          (λ d k of. as_same (by_dump g d) (dump_replica shape g node d) k of)
          (λ name v k of. as_same (by_vote shape name v) (vote_replica shape g node name v) k of)
          (λ name c k of. as_same (by_claim shape name c) (claim_replica shape g node name c) k of)
          (λ k of. as_same (by_tick shape) (tick_replica shape g node) k of)
          (λ e. as_before (by_gather node e) (gather_memory shape g node e))
          (λ base. as_before (by_stage shape g node base) (stage_memory shape g node base))
          switch_apart input (none_brought input)

-- ---- along a run

module _ (shape : Shape) (posts : List Posted) (name : NodeName) where
  abbrev OfNode : KnownNode → Type 0
  OfNode known = KeepsApart known.state.memory

  input_apart : (known : KnownNode) (input : Input) (failed : Bool) → OfNode known → OfNode (after_input shape name.region known input failed)
  input_apart known input failed apart =
      either_way known.silent known (after_handling shape known.state (handled shape name.region known.state input) failed) OfNode apart
      (either_way failed (silenced shape known.state (handled shape name.region known.state input).changes) (speaking (handled shape name.region known.state input).node) OfNode apart
      (planned_apart shape name.region known.state apart input))

  reloaded_apart : (known : KnownNode) (loaded : Option Held) → OfNode known → OfNode (reloaded shape name.region known loaded)
  reloaded_apart known None apart = apart
  reloaded_apart known (Some held) apart = loaded_apart shape name.region held

  handed_apart : (known : KnownNode) (what : Handed) (failed : Bool) → OfNode known → OfNode (after_handed shape name.region posts known what failed)
  handed_apart known what failed apart =
      any_way OfNode (λ input. after_input shape name.region known input failed) known (input_of posts what) (λ input. input_apart known input failed apart) apart

  step_apart : (known : KnownNode) (t : TraceStep) → OfNode known → OfNode (after shape posts name known t)
  step_apart known t apart =
      either_way (addresses name t) (known_to shape name.region posts known t.handed t.failed t.loaded) known OfNode
      (reloaded_apart (after_handed shape name.region posts known t.handed t.failed) t.loaded (handed_apart known t.handed t.failed apart)) apart

  pub known_apart : (steps : List TraceStep) (known : KnownNode) → OfNode known → OfNode (known_of shape posts name known steps)
  unfolding known_of
  known_apart [] known apart = apart
  known_apart (t ∷ steps) known apart = known_apart steps (after shape posts name known t) (step_apart known t apart)
