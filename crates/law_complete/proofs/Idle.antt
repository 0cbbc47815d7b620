-- A node that has taken no part of its session yet sends nothing to a node.
use Rattle.std.proofs.Common.{◌≡◌, ◌∙◌, ℕ, ◌<◌, ◌==◌, ◌&&◌, not, nat_lt, nat_le, Bool, true, false, if◌then◌else◌, List, [], ◌∷◌, ◌++◌, map, length, Option, None, Some, refl, sym, ap, ap₂, subst, arith, append-nil, eq-eqb}
use Rattle.std.specs.Prelude.{filter, flat_map, Result, Ok, Err}
use Rattle.std.specs.Option.{option_map_or}
use Rattle.std.specs.List.{AllByRecursion}
use Rattle.std.proofs.lemmas.Bool.{ltb-true}
use Rattle.std.proofs.lemmas.Option.{same_Some}
use Rattle.salus_types.specs.Volume.{Shape}
use Rattle.salus_types.specs.declared.names.NodeName.{NodeName}
use Rattle.salus_types.specs.declared.names.Sender.TheVariants as sender
use Rattle.salus_types.specs.declared.records.Header.{Header}
use Rattle.salus_types.specs.declared.records.Record.{Record}
use Rattle.salus_types.specs.declared.records.Base.{Base}
use Rattle.salus_message.specs.declared.small.Prepared.{Prepared}
use Rattle.salus_message.specs.declared.small.Committed.{Committed}
use Rattle.salus_message.specs.declared.small.Ask.{Ask}
use Rattle.salus_message.specs.declared.small.Dump.{Dump}
use Rattle.salus_message.specs.declared.replies.Answer.{Answer}
use Rattle.salus_message.specs.declared.wire.Message.{Message}
use Rattle.salus_message.specs.declared.wire.Message.TheVariants as message
use Rattle.salus_message.specs.declared.wire.MessageError.{MessageError}
use Rattle.salus_message.specs.Reading.{message_at}
use Rattle.holding_model.specs.Changing.{FoldsTo, changed, after_changes}
use Rattle.replica_rules.specs.Views.{has_right_shape}
use Rattle.replica_rules.specs.Voting.{with_vote, with_claim, committed}
use Rattle.replica_rules.specs.Leading.{Leader, is_certified, all_certified, front_after}
use Rattle.replica_rules.specs.Replicas.{Replica, Foreign, Known, PartTaken, left_as, is_for, kept_early, tried, take_part, take_ask, due_answers, without_due}
use Rattle.replica_rules.specs.Nodes.{Memory, NodeState, base_held}
use Rattle.replica_rules.specs.Rules.{Sending, Turn, Plan, quiet, plan_of, ignored, told_client, same_record, votes_for, claims_of, then_claims, then_answers, part_taken, by_part, answer_out, by_ask, is_carried, by_gather, says_staged, staged, staged_again, staged_whole, staged_from, staged_anew, is_staged_here, by_stage, by_dump, dumped, with_leader, by_vote, fold_number, folds, after_fold, then_fold, by_claim, is_at_start, by_tick, says_switched, switched, by_switch, Input, Receives, Ticks, planned, handled}
use Rattle.run_rules.specs.Rooms.{part_told, part_read, part_in}
use Rattle.list_lemmas.proofs.Each.{either_way, any_way, OfSome}
use Rattle.list_lemmas.proofs.Tests.{way_with}
use Rattle.law_answers.specs.Turning.{BringsPart}
use Rattle.law_answers.proofs.Asks.{gather_memory, stage_memory}
use Rattle.law_answers.proofs.Rules.{OfMessage, OfResult, OfInput, planned_with}
use Rattle.law_claimed.proofs.Leads.{handled_leads}

abbrev pub ToClient : Sending → Type 0
ToClient out = out.to ≡ sender.Client

answers_to_client : (answers : List Answer) → AllByRecursion ToClient (map (λ answer. record { to = sender.Client; message = message.Answer answer }) answers)
answers_to_client [] = tt
answers_to_client (a ∷ answers) = (refl, answers_to_client answers)

answer_to_client : (o : Option Answer) → AllByRecursion ToClient (answer_out o)
answer_to_client None = tt
answer_to_client (Some a) = (refl, tt)

front_none : (n : ℕ) → front_after n [] ≡ n
unfolding front_after
front_none n = refl

-- ---- what a region's node takes for a part of its session

module _ (shape : Shape) (g e : ℕ) where
  abbrev pub is_own : Record → Bool
  is_own rec = (rec.header.session == e) && (rec.header.region == g) && has_right_shape shape g rec

  abbrev pub brings_own : Input → Bool
  brings_own input = option_map_or (λ rec. is_own rec) (part_in input) false

  abbrev IsNotOwn : Record → Type 0
  IsNotOwn rec = is_own rec ≡ false

  abbrev IsAny : Ask → Type 0
  IsAny a = Unit {0}

  of_message : (m : Message) → option_map_or (λ rec. is_own rec) (part_told m) false ≡ false → OfMessage IsNotOwn IsAny m
  of_message (message.Part m) none = none
  of_message (message.Ask m) none = tt
  of_message (message.Dump m) none = tt
  of_message (message.Gather m) none = tt
  of_message (message.Stage m) none = tt
  of_message (message.Switch m) none = tt
  of_message (message.Prepared m) none = tt
  of_message (message.Committed m) none = tt
  of_message (message.Answer m) none = tt
  of_message (message.Gathered m) none = tt
  of_message (message.Staged m) none = tt
  of_message (message.Switched m) none = tt
  of_message (message.Dumped m) none = tt

  of_read : (r : Result Message MessageError) → option_map_or (λ rec. is_own rec) (part_read r) false ≡ false → OfResult IsNotOwn IsAny sender.Client r
  of_read (Ok m) none = of_message m none
  of_read (Err e) none = tt

  of_other : (name : NodeName) (r : Result Message MessageError) → OfResult IsNotOwn IsAny (sender.Node name) r
  of_other name (Ok m) = tt
  of_other name (Err e) = tt

  pub of_input : (input : Input) → brings_own input ≡ false → OfInput IsNotOwn IsAny input
  of_input (Receives sender.Client bytes) none = of_read (message_at bytes) none
  of_input (Receives (sender.Node name) bytes) none = of_other name (message_at bytes)
  of_input Ticks none = tt

  -- the part that it brings
  pub record Owns (input : Input) : Type 0 where
    pub rec : Record
    pub brings : BringsPart input rec
    pub own : is_own rec ≡ true

  owns_told : (bytes : List ℕ) (m : Message) → message_at bytes ≡ Ok m → option_map_or (λ rec. is_own rec) (part_told m) false ≡ true → Owns (Receives sender.Client bytes)
  owns_told bytes (message.Part m) reads own = record { rec = m.rec; brings = reads; own = own }
  owns_told bytes (message.Ask m) reads own = absurd (cc)
  owns_told bytes (message.Dump m) reads own = absurd (cc)
  owns_told bytes (message.Gather m) reads own = absurd (cc)
  owns_told bytes (message.Stage m) reads own = absurd (cc)
  owns_told bytes (message.Switch m) reads own = absurd (cc)
  owns_told bytes (message.Prepared m) reads own = absurd (cc)
  owns_told bytes (message.Committed m) reads own = absurd (cc)
  owns_told bytes (message.Answer m) reads own = absurd (cc)
  owns_told bytes (message.Gathered m) reads own = absurd (cc)
  owns_told bytes (message.Staged m) reads own = absurd (cc)
  owns_told bytes (message.Switched m) reads own = absurd (cc)
  owns_told bytes (message.Dumped m) reads own = absurd (cc)

  owns_read : (bytes : List ℕ) (r : Result Message MessageError) → message_at bytes ≡ r → option_map_or (λ rec. is_own rec) (part_read r) false ≡ true → Owns (Receives sender.Client bytes)
  owns_read bytes (Ok m) reads own = owns_told bytes m reads own
  owns_read bytes (Err e) reads own = absurd (cc)

  pub owns : (input : Input) → brings_own input ≡ true → Owns input
  owns (Receives sender.Client bytes) own = owns_read bytes (message_at bytes) refl own
  owns (Receives (sender.Node name) bytes) own = absurd (cc)
  owns Ticks own = absurd (cc)

-- ---- what is told to the client alone

module _ (shape : Shape) (g : ℕ) (node : NodeState) where
  abbrev OutsToClient : Plan → Type 0
  OutsToClient plan = AllByRecursion ToClient plan.outs

  pub gather_to_client : (e : ℕ) → OutsToClient (by_gather node e)
  unfolding by_gather
  gather_to_client e = either_way (is_carried node.held) (told_client node (message.Gathered (record { session = e; held = node.held }))) (ignored node) OutsToClient (refl, tt) tt

  from_outs : (rec : Record) (k : Memory) → OutsToClient (staged_from shape node rec k)
  from_outs rec k = either_way _ (staged node rec k.replica.view.blocks) (ignored node) OutsToClient (refl, tt) tt

  anew_outs : (base : Base) → OutsToClient (staged_anew shape node base)
  anew_outs base =
      either_way (length base.blocks == 0) (option_map_or (λ k. staged_from shape node base.rec k) node.memory (ignored node)) (staged_whole shape node base) OutsToClient
      (any_way OutsToClient (λ k. staged_from shape node base.rec k) (ignored node) node.memory (from_outs base.rec) tt)
      (either_way _ (staged node base.rec base.blocks) (ignored node) OutsToClient (refl, tt) tt)

  pub stage_to_client : (base : Base) → OutsToClient (by_stage shape g node base)
  unfolding by_stage
  stage_to_client base =
      either_way (is_staged_here g node base.rec.header) (option_map_or (λ held. staged_again node base.rec held) (base_held shape g base.rec.header.session node.held) (staged_anew shape node base)) (ignored node) OutsToClient
      (any_way OutsToClient (λ held. staged_again node base.rec held) (staged_anew shape node base) (base_held shape g base.rec.header.session node.held)
      (λ held. either_way (same_record held.rec base.rec) (says_staged node base.rec.header.session) (ignored node) OutsToClient (refl, tt) tt) (anew_outs base))
      tt

-- ---- every rule

module _ (shape : Shape) (g b : ℕ) where
  -- with no part, no header noted, and nothing claimed above the number with which it began
  pub record IsIdle (m : Memory) : Type 0 where
    pub parts : m.parts ≡ []
    pub noted : m.leader.noted ≡ []
    pub front : m.leader.front ≡ b
    pub begun : m.begun ≡ Some b

  record TurnIdle (t : Turn) : Type 0 where
    idle : IsIdle t.memory
    outs : AllByRecursion ToClient t.outs

  certified_none : (l : Leader) → l.noted ≡ [] → all_certified shape l ≡ []
  certified_none l none = ap (λ (hs : List Header). filter (λ h. is_certified shape l h) hs) none

  claims_idle : (t : Turn) → TurnIdle t → TurnIdle (then_claims shape t)
  claims_idle t i =
      let none : all_certified shape t.memory.leader ≡ [] = certified_none t.memory.leader i.idle.noted in
      record {
        idle = record { parts = i.idle.parts; noted = i.idle.noted; front = ap (λ (hs : List Header). front_after t.memory.leader.front hs) none ∙ (front_none t.memory.leader.front ∙ i.idle.front); begun = i.idle.begun };
        outs = subst (λ (hs : List Header). AllByRecursion ToClient (t.outs ++ flat_map (λ h. claims_of shape t.memory.replica.session h.seq) hs)) (sym none)
            (subst (λ (l : List Sending). AllByRecursion ToClient l) (sym (append-nil t.outs)) i.outs);
      }

  quiet_idle : (m : Memory) (r : Replica) (outs : List Sending) → IsIdle m → AllByRecursion ToClient outs → TurnIdle (record { memory = record m { replica = r }; outs = outs; changes = [] })
  quiet_idle m r outs i to = record { idle = record { parts = i.parts; noted = i.noted; front = i.front; begun = i.begun }; outs = to }

  part_idle : (rec : Record) (m : Memory) → is_for shape g m.replica rec ≡ false → IsIdle m → TurnIdle (by_part shape g rec m)
  unfolding by_part take_part
  part_idle rec m other i =
      let r : Replica = m.replica in
      let foreign : take_part shape g r rec ≡ left_as r Foreign =
      ap (λ (w : Bool). if not w then left_as r Foreign else (if nat_le rec.header.seq r.view.number then left_as r Known else (if rec.header.previous == r.view.number then tried shape r rec else kept_early r rec))) other in
      subst (λ (taken : PartTaken). TurnIdle (part_taken shape g m rec taken)) (sym foreign)
      (claims_idle (then_answers shape (quiet m)) (quiet_idle m (without_due r) _ i (answers_to_client (due_answers shape r))))

  ask_idle : (a : Ask) (m : Memory) → IsIdle m → TurnIdle (by_ask shape g a m)
  unfolding by_ask
  ask_idle a m i = quiet_idle m (take_ask shape g m.replica a).replica _ i (answer_to_client (take_ask shape g m.replica a).answer)

  leader_idle : (m : Memory) (l : Leader) → IsIdle m → l.noted ≡ m.leader.noted → l.front ≡ m.leader.front → TurnIdle (quiet (with_leader m l))
  leader_idle m l i noted front = record { idle = record { parts = i.parts; noted = noted ∙ i.noted; front = front ∙ i.front; begun = i.begun }; outs = tt }

  vote_idle : (name : NodeName) (v : Prepared) (m : Memory) → IsIdle m → TurnIdle (by_vote shape name v m)
  unfolding by_vote
  vote_idle name v m i =
      let voted : Leader = record m.leader { votes = with_vote m.leader.votes name v.seq v.root } in
      either_way ((v.session == m.replica.session) && (v.region == name.region)) (then_claims shape (quiet (with_leader m voted))) (quiet m) TurnIdle
      (claims_idle (quiet (with_leader m voted)) (leader_idle m voted i refl refl)) (quiet_idle m m.replica [] i tt)

  claim_idle : (name : NodeName) (c : Committed) (m : Memory) → IsIdle m → TurnIdle (by_claim shape name c m)
  unfolding by_claim
  claim_idle name c m i =
      let told : Leader = record m.leader { claims = with_claim m.leader.claims name c.front } in
      let turn : Turn = then_claims shape (quiet (with_leader m told)) in
      let goes = claims_idle (quiet (with_leader m told)) (leader_idle m told i refl refl) in
      either_way (c.session == m.replica.session) (then_fold shape turn) (quiet m) TurnIdle
      (either_way (folds shape turn.memory)
      (record { memory = after_fold turn.memory (fold_number shape turn.memory); outs = turn.outs; changes = turn.changes ++ FoldsTo (fold_number shape turn.memory) ∷ [] }) turn TurnIdle
      (record {
        idle = record {
          parts = ap (λ (ps : List Record). filter (λ rec. nat_lt (fold_number shape turn.memory) rec.header.seq) ps) goes.idle.parts;
          noted = goes.idle.noted;
          front = goes.idle.front;
          begun = goes.idle.begun;
        };
        outs = goes.outs;
      }) goes)
      (quiet_idle m m.replica [] i tt)

  dump_idle : (d : Dump) (m : Memory) → IsIdle m → TurnIdle (by_dump g d m)
  unfolding by_dump
  dump_idle d m i = either_way ((d.session == m.replica.session) && (d.region == g)) (dumped g m) (quiet m) TurnIdle (quiet_idle m m.replica _ i (refl, tt)) (quiet_idle m m.replica [] i tt)

  tick_idle : (m : Memory) → IsIdle m → TurnIdle (by_tick shape m)
  unfolding by_tick
  tick_idle m i =
      let claims : List Sending = if is_at_start m.leader.front m.begun then [] else claims_of shape m.replica.session m.leader.front in
      let start : is_at_start m.leader.front m.begun ≡ true = ap₂ (λ (f : ℕ) (o : Option ℕ). is_at_start f o) i.front i.begun ∙ eq-eqb b b refl in
      quiet_idle m m.replica _ i
      (subst (λ (ps : List Record). AllByRecursion ToClient (flat_map (λ rec. votes_for shape rec) (filter (λ rec. nat_lt (committed shape m.leader.claims) rec.header.seq) ps) ++ claims)) (sym i.parts)
      (subst (λ (w : Bool). AllByRecursion ToClient (if w then [] else claims_of shape m.replica.session m.leader.front)) (sym start) tt))

  module _ (node : NodeState) (m : Memory) (there : node.memory ≡ Some m) (idle : IsIdle m) where
    -- its memory is so after it, and its messages go to the client
    abbrev PlanIdle : Plan → Type 0
    PlanIdle plan = (after_changes shape node.held plan.changes).session ≡ node.held.session → ((k : Memory) → plan.memory ≡ Some k → IsIdle k) × AllByRecursion ToClient plan.outs

    by_rule : (rule : Memory → Turn) (k : Memory) → k ≡ m → (IsIdle k → TurnIdle (rule k)) → PlanIdle (plan_of (rule k))
    by_rule rule k is each stays =
        let goes : TurnIdle (rule k) = each (subst IsIdle (sym is) idle) in
        (λ x same. subst IsIdle (same_Some (rule k).memory x same) goes.idle, goes.outs)

    as_before : (plan : Plan) → plan.memory ≡ node.memory → AllByRecursion ToClient plan.outs → PlanIdle plan
    as_before plan same outs stays = (λ x is. subst IsIdle (same_Some m x (sym there ∙ (sym same ∙ is))) idle, outs)

    switch_idle : (e : ℕ) → PlanIdle (by_switch shape g node e)
    unfolding by_switch after_changes changed
    switch_idle e =
        either_way (e == node.held.session) (says_switched node e) (if nat_lt node.held.session e then option_map_or (λ base. switched shape g node e) (base_held shape g e node.held) (ignored node) else ignored node) PlanIdle
        (as_before (says_switched node e) refl (refl, tt))
        (way_with (nat_lt node.held.session e) (option_map_or (λ base. switched shape g node e) (base_held shape g e node.held) (ignored node)) (ignored node) PlanIdle
        (λ rises. any_way PlanIdle (λ base. switched shape g node e) (ignored node) (base_held shape g e node.held)
        (λ base stays. let up : node.held.session < e = ltb-true node.held.session e rises in let same : e ≡ node.held.session = stays in absurd (omega (arith, up, same))) (as_before (ignored node) refl tt))
        (λ _. as_before (ignored node) refl tt))

    planned_idle : (input : Input) → brings_own shape g m.replica.session input ≡ false → PlanIdle (planned shape g node input)
    planned_idle input other =
        planned_with shape g node (λ k. k ≡ m) (subst (λ (o : Option Memory). OfSome (λ k. k ≡ m) o) (sym there) refl) (λ rec. is_own shape g m.replica.session rec ≡ false) (λ a. Unit {0}) PlanIdle (as_before (ignored node) refl tt)
        (λ rec k none is. by_rule (by_part shape g rec) k is (part_idle rec k (subst (λ (x : Memory). is_for shape g x.replica rec ≡ false) (sym is) none)))
        (λ a k fits is. by_rule (by_ask shape g a) k is (ask_idle a k))
        (λ d k is. by_rule (by_dump g d) k is (dump_idle d k))
        (λ name v k is. by_rule (by_vote shape name v) k is (vote_idle name v k))
        (λ name c k is. by_rule (by_claim shape name c) k is (claim_idle name c k))
        (λ k is. by_rule (by_tick shape) k is (tick_idle k))
        (λ e. as_before (by_gather node e) (gather_memory shape g node e) (gather_to_client shape g node e))
        (λ base. as_before (by_stage shape g node base) (stage_memory shape g node base) (stage_to_client shape g node base))
        switch_idle input (of_input shape g m.replica.session input other)

  -- the memory after an input that brings no part of the session
  pub record StaysIdle (e : ℕ) (memory : Option Memory) : Type 0 where
    pub k : Memory
    pub is : memory ≡ Some k
    pub session : k.replica.session ≡ e
    pub idle : IsIdle k

  pub idle_then : (node : NodeState) (m : Memory) → node.memory ≡ Some m → IsIdle m → (input : Input) → brings_own shape g m.replica.session input ≡ false → (handled shape g node input).node.held.session ≡ node.held.session
      → StaysIdle m.replica.session (handled shape g node input).node.memory × AllByRecursion ToClient (handled shape g node input).outs
  idle_then node m there idle input other stays =
      let leads = handled_leads shape g node input m there stays in
      let goes = planned_idle node m there idle input other stays in
      (record { k = leads.m; is = leads.is; session = leads.session; idle = goes.0 leads.m leads.is }, goes.1)
