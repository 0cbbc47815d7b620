-- The claims that a node sends in a handling are of the session that it has then, and at most its leader's front.
use Rattle.std.proofs.Common.{◌≡◌, ℕ, ◌<◌, ◌≤◌, ◌==◌, ◌&&◌, nat_lt, true, if◌then◌else◌, List, [], ◌∷◌, ◌++◌, length, map, bytes_eq, Option, None, Some, refl, arith}
use Rattle.std.specs.Prelude.{filter, flat_map, Result, Ok, Err}
use Rattle.std.specs.Option.{option_map_or}
use Rattle.std.specs.List.{AllByRecursion, list_any}
use Rattle.std.proofs.lemmas.Bool.{ltb-true}
use Rattle.salus_types.specs.Volume.{Shape}
use Rattle.salus_types.specs.declared.names.NodeName.{NodeName}
use Rattle.salus_types.specs.declared.names.Sender.{Sender}
use Rattle.salus_types.specs.declared.names.Sender.TheVariants as sender
use Rattle.salus_types.specs.declared.records.Header.{Header}
use Rattle.salus_types.specs.declared.records.Record.{Record}
use Rattle.salus_types.specs.declared.records.Base.{Base}
use Rattle.salus_message.specs.declared.small.Ask.{Ask}
use Rattle.salus_message.specs.declared.small.Dump.{Dump}
use Rattle.salus_message.specs.declared.small.Prepared.{Prepared}
use Rattle.salus_message.specs.declared.small.Committed.{Committed}
use Rattle.salus_message.specs.declared.replies.Answer.{Answer}
use Rattle.salus_message.specs.declared.wire.Message.{Message}
use Rattle.salus_message.specs.declared.wire.Message.TheVariants as message
use Rattle.salus_message.specs.declared.wire.MessageError.{MessageError}
use Rattle.salus_message.specs.Reading.{message_at}
use Rattle.merkle_region.specs.Tree.{root_of}
use Rattle.volume_model.specs.Groups.{group_of, all_nodes}
use Rattle.holding_model.specs.Fitting.{has_shape}
use Rattle.holding_model.specs.Changing.{FoldsTo}
use Rattle.replica_rules.specs.Views.{led_by, view_root}
use Rattle.replica_rules.specs.Voting.{with_vote, with_claim, committed}
use Rattle.replica_rules.specs.Leading.{Leader, is_after_claimed, is_certified, all_certified, front_after}
use Rattle.replica_rules.specs.Voting.{is_unanimous}
use Rattle.replica_rules.specs.Replicas.{Replica, PartAnswer, Foreign, Known, Early, Full, Differs, Next, PartTaken, take_part, after_part, all_kept_in_turn, take_ask, due_answers}
use Rattle.replica_rules.specs.Nodes.{Memory, NodeState, base_held}
use Rattle.replica_rules.specs.Rules.{Sending, Turn, Plan, quiet, ignored, told_client, votes_for, vote_for, claims_of, claim_of, then_claims, same_record, part_answered, then_answers, by_part, answer_out, by_ask, dumped, by_dump, with_leader, by_vote, fold_number, folds, after_fold, then_fold, by_claim, is_at_start, by_tick, is_carried, by_gather, says_staged, staged, staged_again, staged_whole, staged_from, staged_anew, is_staged_here, by_stage, says_switched, switched, by_switch, Input, Receives, Ticks, planned}
use Rattle.list_lemmas.proofs.Each.{either_way, any_way, OfSome, all_both, all_map, all_each, all_flat, all_pass, all_then, flat_of_all}
use Rattle.list_lemmas.proofs.Tests.{and_left}
use Rattle.law_answers.proofs.Rules.{OfLetter, OfResult, OfInput, planned_with}
use Rattle.law_claimed.specs.Leading.{Rises}
use Rattle.law_claimed.proofs.Noted.{rises_filter, rises_past, front_over, rises_parts}

-- ---- what is claimed

-- the message is no claim
abbrev NoClaim : Message → Type 0
NoClaim (message.Committed c) = ⊥
NoClaim other = Unit {0}

abbrev NoneClaims : List Sending → Type 0
NoneClaims outs = AllByRecursion (λ out. NoClaim out.message) outs

-- if it is a claim, it is of that session, and of no batch above that front
abbrev ClaimsTo : ℕ → ℕ → Message → Type 0
ClaimsTo e front (message.Committed c) = (c.session ≡ e) × (c.front ≤ front)
ClaimsTo e front other = Unit {0}

-- so of the session and the front in that memory
abbrev pub ClaimsBy : Option Memory → Message → Type 0
ClaimsBy None m = NoClaim m
ClaimsBy (Some k) m = ClaimsTo k.replica.session k.leader.front m

none_to : (e front : ℕ) (m : Message) → NoClaim m → ClaimsTo e front m
none_to e front (message.Committed c) none = absurd none
none_to e front (message.Prepared c) none = tt
none_to e front (message.Gathered c) none = tt
none_to e front (message.Staged c) none = tt
none_to e front (message.Switched c) none = tt
none_to e front (message.Answer c) none = tt
none_to e front (message.Part c) none = tt
none_to e front (message.Ask c) none = tt
none_to e front (message.Gather c) none = tt
none_to e front (message.Stage c) none = tt
none_to e front (message.Switch c) none = tt
none_to e front (message.Dump c) none = tt
none_to e front (message.Dumped c) none = tt

none_by : (o : Option Memory) (m : Message) → NoClaim m → ClaimsBy o m
none_by None m none = none
none_by (Some k) m none = none_to k.replica.session k.leader.front m none

module _ (shape : Shape) (g : ℕ) where
  abbrev TurnClaims : Turn → Type 0
  TurnClaims t = AllByRecursion (λ out. ClaimsTo t.memory.replica.session t.memory.leader.front out.message) t.outs

  abbrev PlanClaims : Plan → Type 0
  PlanClaims plan = AllByRecursion (λ out. ClaimsBy plan.memory out.message) plan.outs

  no_turn : (t : Turn) → NoneClaims t.outs → TurnClaims t
  no_turn t none = all_then (λ out. NoClaim out.message) (λ out. ClaimsTo t.memory.replica.session t.memory.leader.front out.message) (λ out. none_to t.memory.replica.session t.memory.leader.front out.message) t.outs none

  no_plan : (plan : Plan) → NoneClaims plan.outs → PlanClaims plan
  no_plan plan none = all_then (λ out. NoClaim out.message) (λ out. ClaimsBy plan.memory out.message) (λ out. none_by plan.memory out.message) plan.outs none

  -- the claim of a front
  front_claims : (e front top : ℕ) → front ≤ top → AllByRecursion (λ out. ClaimsTo e top out.message) (claims_of shape e front)
  front_claims e front top low = (
    (refl, low),
    all_map (λ (out : Sending). ClaimsTo e top out.message) (λ name. record { to = sender.Node name; message = claim_of e front }) (all_nodes shape)
        (all_each (λ name. (e ≡ e) × (front ≤ top)) (all_nodes shape) (λ name. (refl, low))),
  )

  -- ---- the claims that are due

  module _ (t : Turn) where
    abbrev lead : Leader
    lead = t.memory.leader

    abbrev certified : List Header
    certified = all_certified shape t.memory.leader

    one_past : (h : Header) → is_certified shape lead h ≡ true → lead.front < h.seq
    unfolding is_certified
    one_past h is =
        ltb-true lead.front h.seq (and_left (nat_lt lead.front h.seq) (is_unanimous shape lead.votes h.seq h.touched) (and_left (nat_lt lead.front h.seq && is_unanimous shape lead.votes h.seq h.touched) (is_after_claimed shape lead h) is))

    all_past : AllByRecursion (λ h. lead.front < h.seq) certified
    all_past = all_then (λ h. is_certified shape lead h ≡ true) (λ h. lead.front < h.seq) one_past certified (all_pass (λ h. is_certified shape lead h) lead.noted)

    claims_lead : NoneClaims t.outs → Rises 0 lead.noted → TurnClaims (then_claims shape t)
    claims_lead none rises =
        let top : ℕ = front_after lead.front certified in
        let e : ℕ = t.memory.replica.session in
        let over = front_over lead.front certified (rises_past 0 lead.front certified (rises_filter (λ h. is_certified shape lead h) 0 lead.noted rises) all_past) in
        all_both (λ out. ClaimsTo e top out.message) t.outs (flat_map (λ h. claims_of shape e h.seq) certified)
        (all_then (λ out. NoClaim out.message) (λ out. ClaimsTo e top out.message) (λ out. none_to e top out.message) t.outs none)
        (flat_of_all (λ (out : Sending). ClaimsTo e top out.message) (λ h. claims_of shape e h.seq) certified
        (all_then (λ h. h.seq ≤ top) (λ h. AllByRecursion (λ out. ClaimsTo e top out.message) (claims_of shape e h.seq)) (λ h low. front_claims e h.seq top low) certified over.1))

  -- ---- every rule of an open session

  votes_none : (rec : Record) → NoneClaims (votes_for shape rec)
  votes_none rec =
      all_map (λ (out : Sending). NoClaim out.message) (λ name. record { to = sender.Node name; message = vote_for rec }) (group_of shape (led_by rec.header)) (all_each (λ name. Unit {0}) (group_of shape (led_by rec.header)) (λ name. tt))

  -- it claims nothing before, and its noted headers rise
  record IsReady (t : Turn) : Type 0 where
    none : NoneClaims t.outs
    rises : Rises 0 t.memory.leader.noted

  answered_ready : (rec : Record) (m : Memory) → Rises 0 m.leader.noted → (r : Replica) (answer : PartAnswer) → IsReady (part_answered shape g m rec r answer)
  answered_ready rec m rises r Next = record {
    none = all_flat (λ (out : Sending). NoClaim out.message) (λ part. votes_for shape part) (after_part rec (all_kept_in_turn shape r)).parts votes_none;
    rises = rises_parts g m.leader.noted (after_part rec (all_kept_in_turn shape r)).parts rises;
  }
  answered_ready rec m rises r Known = record {
    none = either_way (list_any (λ held. same_record held rec) m.parts) (votes_for shape rec) [] NoneClaims (votes_none rec) tt;
    rises = rises;
  }
  answered_ready rec m rises r Early = record { none = tt; rises = rises }
  answered_ready rec m rises r Foreign = record { none = tt; rises = rises }
  answered_ready rec m rises r Full = record { none = tt; rises = rises }
  answered_ready rec m rises r (Differs root got) = record { none = tt; rises = rises }

  part_claims : (rec : Record) (m : Memory) → Rises 0 m.leader.noted → TurnClaims (by_part shape g rec m)
  unfolding by_part
  part_claims rec m rises =
      let taken : PartTaken = take_part shape g m.replica rec in
      let t : Turn = part_answered shape g m rec taken.replica taken.answer in
      let ready = answered_ready rec m rises taken.replica taken.answer in
      claims_lead (then_answers shape t)
      (all_both (λ out. NoClaim out.message) t.outs (map (λ answer. record { to = sender.Client; message = message.Answer answer }) (due_answers shape t.memory.replica)) ready.none
      (all_map (λ (out : Sending). NoClaim out.message) (λ answer. record { to = sender.Client; message = message.Answer answer }) (due_answers shape t.memory.replica)
      (all_each (λ answer. Unit {0}) (due_answers shape t.memory.replica) (λ answer. tt)))) ready.rises

  answer_none : (o : Option Answer) → NoneClaims (answer_out o)
  answer_none None = tt
  answer_none (Some answer) = (tt, tt)

  ask_claims : (a : Ask) (m : Memory) → TurnClaims (by_ask shape g a m)
  unfolding by_ask
  ask_claims a m = no_turn (by_ask shape g a m) (answer_none (take_ask shape g m.replica a).answer)

  dump_claims : (d : Dump) (m : Memory) → TurnClaims (by_dump g d m)
  unfolding by_dump
  dump_claims d m = either_way ((d.session == m.replica.session) && (d.region == g)) (dumped g m) (quiet m) TurnClaims (tt, tt) tt

  vote_claims : (name : NodeName) (v : Prepared) (m : Memory) → Rises 0 m.leader.noted → TurnClaims (by_vote shape name v m)
  unfolding by_vote
  vote_claims name v m rises =
      let voted : Turn = quiet (with_leader m (record m.leader { votes = with_vote m.leader.votes name v.seq v.root })) in
      either_way ((v.session == m.replica.session) && (v.region == name.region)) (then_claims shape voted) (quiet m) TurnClaims (claims_lead voted tt rises) tt

  claim_claims : (name : NodeName) (c : Committed) (m : Memory) → Rises 0 m.leader.noted → TurnClaims (by_claim shape name c m)
  unfolding by_claim
  claim_claims name c m rises =
      let told : Turn = quiet (with_leader m (record m.leader { claims = with_claim m.leader.claims name c.front })) in
      let turn : Turn = then_claims shape told in
      let goes : TurnClaims turn = claims_lead told tt rises in
      either_way (c.session == m.replica.session) (then_fold shape turn) (quiet m) TurnClaims
      (either_way (folds shape turn.memory)
      (record { memory = after_fold turn.memory (fold_number shape turn.memory); outs = turn.outs; changes = turn.changes ++ FoldsTo (fold_number shape turn.memory) ∷ [] }) turn TurnClaims goes goes)
      tt

  tick_claims : (m : Memory) → TurnClaims (by_tick shape m)
  unfolding by_tick
  tick_claims m =
      let e : ℕ = m.replica.session in
      let front : ℕ = m.leader.front in
      let left : List Record = filter (λ rec. nat_lt (committed shape m.leader.claims) rec.header.seq) m.parts in
      all_both (λ out. ClaimsTo e front out.message) (flat_map (λ rec. votes_for shape rec) left) (if is_at_start m.leader.front m.begun then [] else claims_of shape e front)
      (all_then (λ out. NoClaim out.message) (λ out. ClaimsTo e front out.message) (λ out. none_to e front out.message) (flat_map (λ rec. votes_for shape rec) left)
      (all_flat (λ (out : Sending). NoClaim out.message) (λ rec. votes_for shape rec) left votes_none))
      (either_way (is_at_start m.leader.front m.begun) [] (claims_of shape e front) (λ outs. AllByRecursion (λ out. ClaimsTo e front out.message) outs) tt (front_claims e front front (omega arith)))

  -- ---- every rule

  module _ (node : NodeState) where
    abbrev NonePlan : Plan → Type 0
    NonePlan plan = NoneClaims plan.outs

    gather_none : (e : ℕ) → NonePlan (by_gather node e)
    unfolding by_gather
    gather_none e = either_way (is_carried node.held) (told_client node (message.Gathered (record { session = e; held = node.held }))) (ignored node) NonePlan (tt, tt) tt

    anew_none : (base : Base) → NonePlan (staged_anew shape node base)
    anew_none base =
        either_way (length base.blocks == 0) (option_map_or (λ m. staged_from shape node base.rec m) node.memory (ignored node)) (staged_whole shape node base) NonePlan
        (any_way NonePlan (λ m. staged_from shape node base.rec m) (ignored node) node.memory
        (λ m. either_way (bytes_eq (view_root shape m.replica.view) base.rec.header.root) (staged node base.rec m.replica.view.blocks) (ignored node) NonePlan (tt, tt) tt) tt)
        (either_way (has_shape shape base.blocks && bytes_eq (root_of shape.height base.blocks) base.rec.header.root) (staged node base.rec base.blocks) (ignored node) NonePlan (tt, tt) tt)

    stage_none : (base : Base) → NonePlan (by_stage shape g node base)
    unfolding by_stage
    stage_none base =
        either_way (is_staged_here g node base.rec.header)
        (option_map_or (λ old. staged_again node base.rec old) (base_held shape g base.rec.header.session node.held) (staged_anew shape node base)) (ignored node) NonePlan
        (any_way NonePlan (λ old. staged_again node base.rec old) (staged_anew shape node base) (base_held shape g base.rec.header.session node.held)
        (λ old. either_way (same_record old.rec base.rec) (says_staged node base.rec.header.session) (ignored node) NonePlan (tt, tt) tt) (anew_none base)) tt

    switch_none : (e : ℕ) → NonePlan (by_switch shape g node e)
    unfolding by_switch
    switch_none e =
        either_way (e == node.held.session) (says_switched node e) (if nat_lt node.held.session e then option_map_or (λ base. switched shape g node e) (base_held shape g e node.held) (ignored node) else ignored node) NonePlan (tt, tt)
        (either_way (nat_lt node.held.session e) (option_map_or (λ base. switched shape g node e) (base_held shape g e node.held) (ignored node)) (ignored node) NonePlan
        (any_way NonePlan (λ (base : Base). switched shape g node e) (ignored node) (base_held shape g e node.held) (λ base. (tt, tt)) tt) tt)

-- nothing is asked of what an input brings
none_given : (input : Input) → OfInput (λ rec. Unit {0}) (λ a. Unit {0}) input
none_given (Receives from bytes) = of_result from (message_at bytes) where
  of_message : (m : Message) → OfLetter (λ rec. Unit {0}) (λ a. Unit {0}) sender.Client m
  of_message (message.Part m) = tt
  of_message (message.Ask m) = tt
  of_message (message.Dump m) = tt
  of_message (message.Gather m) = tt
  of_message (message.Stage m) = tt
  of_message (message.Switch m) = tt
  of_message (message.Prepared m) = tt
  of_message (message.Committed m) = tt
  of_message (message.Answer m) = tt
  of_message (message.Gathered m) = tt
  of_message (message.Staged m) = tt
  of_message (message.Switched m) = tt
  of_message (message.Dumped m) = tt

  of_result : (from : Sender) (r : Result Message MessageError) → OfResult (λ rec. Unit {0}) (λ a. Unit {0}) from r
  of_result sender.Client (Ok m) = of_message m
  of_result (sender.Node name) (Ok m) = tt
  of_result from (Err e) = tt
none_given Ticks = tt

-- The law: where the noted headers rise, each claim that is sent is one of the memory after it.
pub handled_claims : (shape : Shape) (g : ℕ) (node : NodeState) (input : Input) → OfSome (λ (m : Memory). Rises 0 m.leader.noted) node.memory
    → AllByRecursion (λ out. ClaimsBy (planned shape g node input).memory out.message) (planned shape g node input).outs
handled_claims shape g node input rises =
    planned_with shape g node (λ (m : Memory). Rises 0 m.leader.noted) rises (λ rec. Unit {0}) (λ a. Unit {0}) (PlanClaims shape g) tt
    (λ rec m fits of. part_claims shape g rec m of)
    (λ a m fits of. ask_claims shape g a m)
    (λ d m of. dump_claims shape g d m)
    (λ name v m of. vote_claims shape g name v m of)
    (λ name c m of. claim_claims shape g name c m of)
    (λ m of. tick_claims shape g m)
    (λ e. no_plan shape g (by_gather node e) (gather_none shape g node e))
    (λ base. no_plan shape g (by_stage shape g node base) (stage_none shape g node base))
    (λ e. no_plan shape g (by_switch shape g node e) (switch_none shape g node e))
    input (none_given input)
