-- One handling: the asks that a node keeps were kept before or are brought, and each answer that it sends is one to such an ask, as
-- of the view after it.
use Rattle.std.proofs.Common.{◌≡◌, ◌∙◌, ℕ, zero, suc, ◌==◌, ◌&&◌, not, nat_lt, nat_le, if◌then◌else◌, List, [], ◌∷◌, ◌++◌, length, map, Option, None, Some, refl, sym, subst, bytes_eq}
use Rattle.std.specs.Prelude.{filter, flat_map, option_map}
use Rattle.std.specs.Option.{option_map_or}
use Rattle.std.specs.List.{AllByRecursion, list_any}
use Rattle.salus_types.specs.Volume.{Shape}
use Rattle.salus_types.specs.declared.names.NodeName.{NodeName}
use Rattle.salus_types.specs.declared.names.Sender.TheVariants as sender
use Rattle.salus_types.specs.declared.records.Record.{Record}
use Rattle.salus_types.specs.declared.records.Base.{Base}
use Rattle.salus_types.specs.declared.records.Held.{Held}
use Rattle.salus_message.specs.declared.small.Ask.{Ask}
use Rattle.salus_message.specs.declared.small.Dump.{Dump}
use Rattle.salus_message.specs.declared.small.Prepared.{Prepared}
use Rattle.salus_message.specs.declared.small.Committed.{Committed}
use Rattle.salus_message.specs.declared.replies.Answer.{Answer}
use Rattle.salus_message.specs.declared.wire.Message.{Message}
use Rattle.salus_message.specs.declared.wire.Message.TheVariants as message
use Rattle.merkle_region.specs.Tree.{root_of}
use Rattle.holding_model.specs.Fitting.{has_shape}
use Rattle.holding_model.specs.Changing.{SwitchesTo, FoldsTo, changed}
use Rattle.volume_model.specs.Groups.{group_of, all_nodes}
use Rattle.replica_rules.specs.Views.{led_by, view_after, view_root, is_accepted}
use Rattle.replica_rules.specs.Replicas.{Replica, with_view, PartAnswer, Foreign, Known, Early, Full, Differs, Next, PartTaken, left_as, is_for, has_early, kept_early, tried, take_part, KeptTaken, next_kept, without_kept, take_out, take_kept, Applied, no_more, after_part, kept_in_turn, all_kept_in_turn, AskTaken, is_asked_here, is_due, answer_to, with_ask, take_ask, due_answers}
use Rattle.replica_rules.specs.Voting.{with_vote, with_claim, committed}
use Rattle.replica_rules.specs.Leading.{all_certified}
use Rattle.replica_rules.specs.Nodes.{Memory, NodeState, memory_of, open_base, loaded_as, base_held}
use Rattle.replica_rules.specs.Rules.{Sending, Turn, Plan, quiet, plan_of, ignored, told_client, votes_for, claims_of, then_claims, then_answers, part_answered, by_part, ask_taken, by_ask, is_carried, by_gather, says_staged, staged, staged_again, staged_whole, staged_from, staged_anew, is_staged_here, by_stage, same_record, says_switched, switched, by_switch, dumped, by_dump, with_leader, by_vote, fold_number, folds, after_fold, then_fold, by_claim, is_at_start, by_tick, Input, planned}
use Rattle.list_lemmas.proofs.Each.{either_way, OfSome, any_way, all_both, all_filter, all_map, all_each, all_flat, all_then}
use Rattle.law_answers.proofs.Asks.{vote_replica, claim_replica, dump_replica, tick_replica, gather_memory, stage_memory}
use Rattle.law_answers.proofs.Rules.{OfInput, planned_with}

-- ---- what is said of a plan

module _ (shape : Shape) (P : Ask → Type 0) where
  -- of each ask that is kept
  abbrev pub AsksOf : Option Memory → Type 0
  AsksOf memory = OfSome (λ m. AllByRecursion P m.replica.asks) memory

  -- the answer is one to such an ask, as of the view of that memory
  pub record IsAnswerTo (memory : Option Memory) (a : Answer) : Type 0 where
    pub m : Memory
    pub there : memory ≡ Some m
    pub ask : Ask
    pub asked : P ask
    pub is : a ≡ answer_to shape m.replica.view ask

  abbrev pub AnswersFor : Option Memory → Message → Type 0
  AnswersFor memory (message.Answer a) = IsAnswerTo memory a
  AnswersFor memory other = Unit {0}

  pub record KeepsTo (plan : Plan) : Type 0 where
    pub kept : AsksOf plan.memory
    pub sent : AllByRecursion (λ out. AnswersFor plan.memory out.message) plan.outs

-- the message is no answer
abbrev IsOther : Message → Type 0
IsOther (message.Answer a) = ⊥
IsOther other = Unit {0}

abbrev AllOther : List Sending → Type 0
AllOther outs = AllByRecursion (λ out. IsOther out.message) outs

-- ---- messages that are no answers

votes_other : (shape : Shape) (rec : Record) → AllOther (votes_for shape rec)
votes_other shape rec = all_map (λ (out : Sending). IsOther out.message) _ (group_of shape (led_by rec.header)) (all_each (λ name. Unit {0}) (group_of shape (led_by rec.header)) (λ name. tt))

claims_other : (shape : Shape) (e front : ℕ) → AllOther (claims_of shape e front)
claims_other shape e front = (tt, all_map (λ (out : Sending). IsOther out.message) _ (all_nodes shape) (all_each (λ name. Unit {0}) (all_nodes shape) (λ name. tt)))

all_votes_other : (shape : Shape) (recs : List Record) → AllOther (flat_map (λ rec. votes_for shape rec) recs)
all_votes_other shape recs = all_flat (λ (out : Sending). IsOther out.message) (λ rec. votes_for shape rec) recs (λ rec. votes_other shape rec)

-- the claims that follow a turn
claimed_other : (shape : Shape) (turn : Turn) → AllOther turn.outs → AllOther (then_claims shape turn).outs
claimed_other shape turn other =
    all_both (λ (out : Sending). IsOther out.message) turn.outs _ other
    (all_flat (λ (out : Sending). IsOther out.message) (λ h. claims_of shape turn.memory.replica.session h.seq) (all_certified shape turn.memory.leader) (λ h. claims_other shape turn.memory.replica.session h.seq))

module _ (shape : Shape) (P : Ask → Type 0) where
  abbrev For : Option Memory → List Sending → Type 0
  For memory outs = AllByRecursion (λ out. AnswersFor shape P memory out.message) outs

  other_for : (memory : Option Memory) (m : Message) → IsOther m → AnswersFor shape P memory m
  other_for memory (message.Answer a) is = absurd is
  other_for memory other is = tt

  all_for : (memory : Option Memory) (outs : List Sending) → AllOther outs → For memory outs
  all_for memory outs other = all_then (λ (out : Sending). IsOther out.message) (λ out. AnswersFor shape P memory out.message) (λ out is. other_for memory out.message is) outs other

  -- ---- a part changes no ask

  early_asks : (r : Replica) (rec : Record) → (kept_early r rec).replica.asks ≡ r.asks
  early_asks r rec =
      let Same : PartTaken → Type 0 = λ t. t.replica.asks ≡ r.asks in
      either_way (has_early r.early rec.header.previous) (left_as r Early) (if nat_lt (length r.early) 16 then left_as (record r { early = r.early ++ rec ∷ [] }) Early else left_as r Full) Same refl
      (either_way (nat_lt (length r.early) 16) (left_as (record r { early = r.early ++ rec ∷ [] }) Early) (left_as r Full) Same refl refl)

  taken_asks : (g : ℕ) (r : Replica) (rec : Record) → (take_part shape g r rec).replica.asks ≡ r.asks
  unfolding take_part
  taken_asks g r rec =
      let Same : PartTaken → Type 0 = λ t. t.replica.asks ≡ r.asks in
      let next : PartTaken = left_as (with_view r (view_after shape r.view rec)) Next in
      let differs : PartTaken = left_as r (Differs rec.header.root (view_root shape (view_after shape r.view rec))) in
      either_way (not (is_for shape g r rec)) (left_as r Foreign) (if nat_le rec.header.seq r.view.number then left_as r Known else (if rec.header.previous == r.view.number then tried shape r rec else kept_early r rec)) Same refl
      (either_way (nat_le rec.header.seq r.view.number) (left_as r Known) (if rec.header.previous == r.view.number then tried shape r rec else kept_early r rec) Same refl
      (either_way (rec.header.previous == r.view.number) (tried shape r rec) (kept_early r rec) Same (either_way (is_accepted shape r.view rec) next differs Same refl refl) (early_asks r rec)))

  kept_asks : (r : Replica) → (take_kept shape r).replica.asks ≡ r.asks
  unfolding take_kept
  kept_asks r =
      let Same : KeptTaken → Type 0 = λ t. t.replica.asks ≡ r.asks in
      any_way Same (λ rec. take_out shape r rec) (record { replica = r; part = None }) (next_kept r)
      (λ rec. either_way (is_accepted shape r.view rec) (record { replica = with_view (without_kept r) (view_after shape r.view rec); part = Some rec }) (record { replica = without_kept r; part = None }) Same refl refl) refl

  turn_asks : (n : ℕ) (r : Replica) → (kept_in_turn shape n r).replica.asks ≡ r.asks
  unfolding kept_in_turn
  turn_asks zero r = refl
  turn_asks (suc n) r =
      let next : Replica = (take_kept shape r).replica in
      any_way (λ (t : Applied). t.replica.asks ≡ r.asks) (λ rec. after_part rec (kept_in_turn shape n next)) (no_more next) (take_kept shape r).part
      (λ rec. turn_asks n next ∙ kept_asks r) (kept_asks r)

  -- what a part gives before answers and claims: the same asks, and no answer
  pub record IsStill (m : Memory) (turn : Turn) : Type 0 where
    pub asks : turn.memory.replica.asks ≡ m.replica.asks
    pub other : AllOther turn.outs

  answered_still : (g : ℕ) (m : Memory) (rec : Record) (r : Replica) (answer : PartAnswer) → r.asks ≡ m.replica.asks → IsStill m (part_answered shape g m rec r answer)
  answered_still g m rec r Next same = record { asks = turn_asks (length r.early) r ∙ same; other = all_votes_other shape (rec ∷ (all_kept_in_turn shape r).parts) }
  answered_still g m rec r Known same = record { asks = refl; other = either_way (list_any (λ held. same_record held rec) m.parts) (votes_for shape rec) [] AllOther (votes_other shape rec) tt }
  answered_still g m rec r Early same = record { asks = same; other = tt }
  answered_still g m rec r Foreign same = record { asks = refl; other = tt }
  answered_still g m rec r Full same = record { asks = refl; other = tt }
  answered_still g m rec r (Differs root got) same = record { asks = refl; other = tt }

  -- ---- the rules of an open session

  abbrev Asked : Memory → Type 0
  Asked m = AllByRecursion P m.replica.asks

  -- then the asks that are due are answered, as of the view after it
  answers_then : (turn : Turn) → AllByRecursion P turn.memory.replica.asks → AllOther turn.outs → KeepsTo shape P (plan_of (then_claims shape (then_answers shape turn)))
  answers_then turn all other =
      let r : Replica = turn.memory.replica in
      let now : Memory = (then_claims shape (then_answers shape turn)).memory in
      let due : List Ask = filter (λ ask. is_due r.view ask) r.asks in
      let answers : For (Some now) (map (λ (answer : Answer). record { to = sender.Client; message = message.Answer answer }) (due_answers shape r)) =
      all_map (λ (out : Sending). AnswersFor shape P (Some now) out.message) (λ (answer : Answer). record { to = sender.Client; message = message.Answer answer }) (due_answers shape r)
      (all_map (λ (answer : Answer). IsAnswerTo shape P (Some now) answer) (λ (ask : Ask). answer_to shape r.view ask) due
      (all_then P (λ (ask : Ask). IsAnswerTo shape P (Some now) (answer_to shape r.view ask)) (λ ask asked. record { m = now; there = refl; ask = ask; asked = asked; is = refl }) due (all_filter P (λ ask. is_due r.view ask) r.asks all))) in
      record {
        kept = all_filter P (λ ask. not (is_due r.view ask)) r.asks all;
        sent = all_both (λ (out : Sending). AnswersFor shape P (Some now) out.message) (then_answers shape turn).outs _
            (all_both (λ (out : Sending). AnswersFor shape P (Some now) out.message) turn.outs _ (all_for (Some now) turn.outs other) answers)
            (all_for (Some now) _
            (all_flat (λ (out : Sending). IsOther out.message) (λ h. claims_of shape turn.memory.replica.session h.seq) (all_certified shape turn.memory.leader) (λ h. claims_other shape turn.memory.replica.session h.seq)));
      }

  part_keeps : (g : ℕ) (rec : Record) (m : Memory) → Asked m → KeepsTo shape P (plan_of (by_part shape g rec m))
  unfolding by_part
  part_keeps g rec m all =
      let taken : PartTaken = take_part shape g m.replica rec in
      let still : IsStill m (part_answered shape g m rec taken.replica taken.answer) = answered_still g m rec taken.replica taken.answer (taken_asks g m.replica rec) in
      answers_then (part_answered shape g m rec taken.replica taken.answer) (subst (λ (l : List Ask). AllByRecursion P l) (sym still.asks) all) still.other

  with_one : (asks : List Ask) (ask : Ask) → P ask → AllByRecursion P asks → AllByRecursion P (with_ask asks ask)
  unfolding with_ask
  with_one [] ask one all = (one, tt)
  with_one (other ∷ asks) ask one all =
      either_way (nat_lt ask.read other.read) (ask ∷ other ∷ asks) (if ask.read == other.read then ask ∷ asks else other ∷ with_ask asks ask) (λ l. AllByRecursion P l) (one, all)
      (either_way (ask.read == other.read) (ask ∷ asks) (other ∷ with_ask asks ask) (λ l. AllByRecursion P l) (one, all.1) (all.0, with_one asks ask one all.1))

  ask_keeps : (g : ℕ) (ask : Ask) (m : Memory) → P ask → Asked m → KeepsTo shape P (plan_of (by_ask shape g ask m))
  unfolding by_ask take_ask
  ask_keeps g ask m one all =
      let r : Replica = m.replica in
      let Q : AskTaken → Type 0 = λ t. KeepsTo shape P (plan_of (ask_taken m t)) in
      either_way (not (is_asked_here shape g r ask)) (record { replica = r; answer = None })
      (if is_due r.view ask then record { replica = r; answer = Some (answer_to shape r.view ask) } else record { replica = record r { asks = with_ask r.asks ask }; answer = None }) Q
      (record { kept = all; sent = tt })
      (either_way (is_due r.view ask) (record { replica = r; answer = Some (answer_to shape r.view ask) }) (record { replica = record r { asks = with_ask r.asks ask }; answer = None }) Q
      (record { kept = all; sent = (record { m = (ask_taken m (record { replica = r; answer = Some (answer_to shape r.view ask) })).memory; there = refl; ask = ask; asked = one; is = refl }, tt) })
      (record { kept = with_one r.asks ask one all; sent = tt }))

  -- the replica is as it was, and no answer is sent
  same_keeps : (turn : Turn) (m : Memory) → turn.memory.replica ≡ m.replica → AllOther turn.outs → Asked m → KeepsTo shape P (plan_of turn)
  same_keeps turn m same other all = record { kept = subst (λ (r : Replica). AllByRecursion P r.asks) (sym same) all; sent = all_for (Some turn.memory) turn.outs other }

  vote_other : (name : NodeName) (v : Prepared) (m : Memory) → AllOther (by_vote shape name v m).outs
  unfolding by_vote
  vote_other name v m =
      let turn : Turn = quiet (with_leader m (record m.leader { votes = with_vote m.leader.votes name v.seq v.root })) in
      either_way ((v.session == m.replica.session) && (v.region == name.region)) (then_claims shape turn) (quiet m) (λ (t : Turn). AllOther t.outs) (claimed_other shape turn tt) tt

  claim_other : (name : NodeName) (c : Committed) (m : Memory) → AllOther (by_claim shape name c m).outs
  unfolding by_claim
  claim_other name c m =
      let Q : Turn → Type 0 = λ t. AllOther t.outs in
      let turn : Turn = then_claims shape (quiet (with_leader m (record m.leader { claims = with_claim m.leader.claims name c.front }))) in
      let other : AllOther turn.outs = claimed_other shape (quiet (with_leader m (record m.leader { claims = with_claim m.leader.claims name c.front }))) tt in
      either_way (c.session == m.replica.session) (then_fold shape turn) (quiet m) Q
      (either_way (folds shape turn.memory)
      (record { memory = after_fold turn.memory (fold_number shape turn.memory); outs = turn.outs; changes = turn.changes ++ FoldsTo (fold_number shape turn.memory) ∷ [] }) turn Q other other) tt

  dump_other : (g : ℕ) (d : Dump) (m : Memory) → AllOther (by_dump g d m).outs
  unfolding by_dump
  dump_other g d m = either_way ((d.session == m.replica.session) && (d.region == g)) (dumped g m) (quiet m) (λ (t : Turn). AllOther t.outs) (tt, tt) tt

  tick_other : (m : Memory) → AllOther (by_tick shape m).outs
  unfolding by_tick
  tick_other m =
      all_both (λ (out : Sending). IsOther out.message) (flat_map (λ rec. votes_for shape rec) (filter (λ rec. nat_lt (committed shape m.leader.claims) rec.header.seq) m.parts)) _
      (all_votes_other shape (filter (λ rec. nat_lt (committed shape m.leader.claims) rec.header.seq) m.parts))
      (either_way (is_at_start m.leader.front m.begun) [] (claims_of shape m.replica.session m.leader.front) AllOther tt (claims_other shape m.replica.session m.leader.front))

  -- ---- a load

  some_none : (g : ℕ) (held : Held) (o : Option Base) → AsksOf shape P (option_map (λ base. memory_of shape g held base) o)
  some_none g held None = tt
  some_none g held (Some base) = tt

  -- a node that was just loaded keeps no ask
  pub loaded_none : (g : ℕ) (held : Held) → AsksOf shape P (loaded_as shape g held).memory
  unfolding loaded_as
  loaded_none g held = some_none g held (open_base shape g held)

  -- ---- the rules that need no open session

  module _ (g : ℕ) (node : NodeState) (all : AsksOf shape P node.memory) where
    as_before : (plan : Plan) → plan.memory ≡ node.memory → AllOther plan.outs → KeepsTo shape P plan
    as_before plan same other = record { kept = subst (λ (o : Option Memory). AsksOf shape P o) (sym same) all; sent = all_for plan.memory plan.outs other }

    ignored_keeps : KeepsTo shape P (ignored node)
    ignored_keeps = record { kept = all; sent = tt }

    gather_other : (e : ℕ) → AllOther (by_gather node e).outs
    unfolding by_gather
    gather_other e =
        either_way (is_carried node.held) (told_client node (message.Gathered (record { session = e; held = node.held }))) (ignored node) (λ (p : Plan). AllOther p.outs) (tt, tt) tt

    anew_other : (base : Base) → AllOther (staged_anew shape node base).outs
    anew_other base =
        let Q : Plan → Type 0 = λ p. AllOther p.outs in
        either_way (length base.blocks == 0) (option_map_or (λ m. staged_from shape node base.rec m) node.memory (ignored node)) (staged_whole shape node base) Q
        (any_way Q (λ m. staged_from shape node base.rec m) (ignored node) node.memory
        (λ m. either_way (bytes_eq (view_root shape m.replica.view) base.rec.header.root) (staged node base.rec m.replica.view.blocks) (ignored node) Q (tt, tt) tt) tt)
        (either_way (has_shape shape base.blocks && bytes_eq (root_of shape.height base.blocks) base.rec.header.root) (staged node base.rec base.blocks) (ignored node) Q (tt, tt) tt)

    stage_other : (base : Base) → AllOther (by_stage shape g node base).outs
    unfolding by_stage
    stage_other base =
        let Q : Plan → Type 0 = λ p. AllOther p.outs in
        either_way (is_staged_here g node base.rec.header)
        (option_map_or (λ old. staged_again node base.rec old) (base_held shape g base.rec.header.session node.held) (staged_anew shape node base)) (ignored node) Q
        (any_way Q (λ old. staged_again node base.rec old) (staged_anew shape node base) (base_held shape g base.rec.header.session node.held)
        (λ old. either_way (same_record old.rec base.rec) (says_staged node base.rec.header.session) (ignored node) Q (tt, tt) tt) (anew_other base)) tt

    switch_keeps : (e : ℕ) → KeepsTo shape P (by_switch shape g node e)
    unfolding by_switch
    switch_keeps e =
        let Q : Plan → Type 0 = λ p. KeepsTo shape P p in
        either_way (e == node.held.session) (says_switched node e)
        (if nat_lt node.held.session e then option_map_or (λ base. switched shape g node e) (base_held shape g e node.held) (ignored node) else ignored node) Q
        (as_before (says_switched node e) refl (tt, tt))
        (either_way (nat_lt node.held.session e) (option_map_or (λ base. switched shape g node e) (base_held shape g e node.held) (ignored node)) (ignored node) Q
        (any_way Q (λ base. switched shape g node e) (ignored node) (base_held shape g e node.held)
        (λ base. record { kept = loaded_none g (changed shape node.held (SwitchesTo e)); sent = (tt, tt) }) ignored_keeps) ignored_keeps)

    -- The law: of each plan, where so are the asks that are brought.
    pub planned_keeps : (input : Input) → OfInput (λ rec. Unit {0}) P input → KeepsTo shape P (planned shape g node input)
    planned_keeps input given =
        planned_with shape g node Asked all (λ rec. Unit {0}) P (λ plan. KeepsTo shape P plan) ignored_keeps
        (λ rec m of here. part_keeps g rec m here)
        (λ ask m of here. ask_keeps g ask m of here)
        (λ d m here. same_keeps (by_dump g d m) m (dump_replica shape g node d m) (dump_other g d m) here)
        (λ name v m here. same_keeps (by_vote shape name v m) m (vote_replica shape g node name v m) (vote_other name v m) here)
        (λ name c m here. same_keeps (by_claim shape name c m) m (claim_replica shape g node name c m) (claim_other name c m) here)
        (λ m here. same_keeps (by_tick shape m) m (tick_replica shape g node m) (tick_other m) here)
        (λ e. as_before (by_gather node e) (gather_memory shape g node e) (gather_other e))
        (λ base. as_before (by_stage shape g node base) (stage_memory shape g node base) (stage_other base))
        switch_keeps input given
