-- A leader goes on along each handling of its node in a session.
use Rattle.std.proofs.Common.{◌≡◌, ◌∙◌, inl, inr, ⊎_elim, ℕ, zero, suc, ◌%◌, ◌<◌, ◌≤◌, ◌==◌, ◌&&◌, not, nat_lt, nat_le, Bool, true, false, if◌then◌else◌, List, [], ◌∷◌, ◌++◌, length, Option, None, Some, refl, sym, ap, subst, arith, eqb-true}
use Rattle.std.specs.Prelude.{flat_map, Result, Ok, Err}
use Rattle.std.specs.Option.{option_map_or}
use Rattle.std.specs.List.{AllByRecursion}
use Rattle.std.proofs.lemmas.Bool.{leb-true, leb-false, ltb-true, lt-ltb}
use Rattle.salus_types.specs.Volume.{Shape}
use Rattle.salus_types.specs.declared.names.NodeName.{NodeName}
use Rattle.salus_types.specs.declared.names.Sender.{Sender}
use Rattle.salus_types.specs.declared.names.Sender.TheVariants as sender
use Rattle.salus_types.specs.declared.records.Header.{Header}
use Rattle.salus_types.specs.declared.records.Record.{Record}
use Rattle.salus_message.specs.declared.small.Ask.{Ask}
use Rattle.salus_message.specs.declared.small.Prepared.{Prepared}
use Rattle.salus_message.specs.declared.small.Committed.{Committed}
use Rattle.salus_message.specs.declared.wire.Message.{Message}
use Rattle.salus_message.specs.declared.wire.Message.TheVariants as message
use Rattle.salus_message.specs.declared.wire.MessageError.{MessageError}
use Rattle.salus_message.specs.Reading.{message_at}
use Rattle.merkle_region.specs.Tree.{IsAmong}
use Rattle.merkle_region.proofs.Membership.{among_right}
use Rattle.volume_model.specs.Groups.{same_node}
use Rattle.holding_model.specs.Changing.{FoldsTo, changed, after_changes}
use Rattle.replica_rules.specs.Views.{view_after, view_root, is_accepted}
use Rattle.replica_rules.specs.Voting.{Vote, share_place, is_above_vote, with_vote, with_claim, greater, is_unanimous}
use Rattle.replica_rules.specs.Leading.{Leader, noted_with, is_after_claimed, is_certified, all_certified, front_after}
use Rattle.replica_rules.specs.Replicas.{Replica, with_view, PartAnswer, Foreign, Known, Early, Full, Differs, Next, PartTaken, left_as, is_for, has_early, kept_early, tried, take_part, KeptTaken, next_kept, without_kept, take_out, take_kept, Applied, no_more, after_part, kept_in_turn, all_kept_in_turn, AskTaken, is_asked_here, is_due, answer_to, with_ask, take_ask}
use Rattle.replica_rules.specs.Nodes.{Memory, NodeState, base_held}
use Rattle.replica_rules.specs.Rules.{Sending, Turn, Plan, quiet, plan_of, ignored, claims_of, then_claims, then_answers, part_answered, by_part, by_ask, by_dump, dumped, with_leader, by_vote, fold_number, folds, after_fold, then_fold, by_claim, by_tick, by_gather, by_stage, says_switched, switched, by_switch, Input, Receives, Ticks, planned, handled}
use Rattle.list_lemmas.proofs.Each.{either_way, any_way, OfSome, all_pass, all_then}
use Rattle.list_lemmas.proofs.Members.{all_among, among_all, among_filter-in, among_flat_map-in}
use Rattle.list_lemmas.proofs.Tests.{by_bool, way_with, and_left, and_right}
use Rattle.law_answers.proofs.Asks.{gather_memory, stage_memory}
use Rattle.law_answers.proofs.Rules.{OfLetter, OfResult, OfInput, planned_with}
use Rattle.law_claimed.specs.Leading as specs
use Rattle.law_claimed.specs.Leading.{Rises, IsSettled, HasNoted, IsVoteFrom, ArePlaced, IsPlaced, LeadsOn, MemoryLeadsOn}
use Rattle.law_claimed.proofs.Noted.{rises_filter, rises_past, front_last, front_over, rises_parts, parts_old, share_from}

-- ---- what a rule makes of a leader before it claims

pub record Changes (before after : Leader) : Type 0 where
  pub base : after.base ≡ before.base
  pub front : after.front ≡ before.front
  pub noted : (s : ℕ) → HasNoted s before.noted → HasNoted s after.noted
  pub votes : (name : NodeName) (s : ℕ) → IsVoteFrom s (before.votes name s) → IsVoteFrom s (after.votes name s)
  pub claims : (name : NodeName) → before.claims name ≤ after.claims name
  pub placed : ArePlaced before.votes → ArePlaced after.votes
  pub rises : Rises 0 before.noted → Rises 0 after.noted

no_change : (l : Leader) → Changes l l
no_change l = record { base = refl; front = refl; noted = λ s has. has; votes = λ name s has. has; claims = λ name. omega arith; placed = λ placed. placed; rises = λ rises. rises }

vote_rises : (s seq : ℕ) (root : List ℕ) (o : Option Vote) (here : Bool) → IsVoteFrom s o → IsVoteFrom s (if here && is_above_vote seq o then Some (record { seq = seq; root = root }) else o)
vote_rises s seq root None here has = absurd has
vote_rises s seq root (Some vote) here has =
    way_with (here && nat_lt vote.seq seq) (Some (record { seq = seq; root = root })) (Some vote) (IsVoteFrom s)
    (λ above. let less : vote.seq < seq = ltb-true vote.seq seq (and_right here (nat_lt vote.seq seq) above) in let low : s ≤ vote.seq = has in omega (arith, low, less)) (λ _. has)

placed_with : (x seq : ℕ) (root : List ℕ) (o : Option Vote) (here : Bool) → (here ≡ true → share_place seq x ≡ true) → IsPlaced x o → IsPlaced x (if here && is_above_vote seq o then Some (record { seq = seq; root = root }) else o)
placed_with x seq root o here shares placed =
    way_with (here && is_above_vote seq o) (Some (record { seq = seq; root = root })) o (IsPlaced x) (λ taken. shares (and_left here (is_above_vote seq o) taken)) (λ _. placed)

vote_change : (l : Leader) (name : NodeName) (seq : ℕ) (root : List ℕ) → Changes l (record l { votes = with_vote l.votes name seq root })
vote_change l name seq root = record {
  base = refl;
  front = refl;
  noted = λ s has. has;
  votes = λ other s has. vote_rises s seq root (l.votes other s) (same_node other name && share_place s seq) has;
  claims = λ other. omega arith;
  placed = λ placed other x.
      placed_with x seq root (l.votes other x) (same_node other name && share_place x seq)
      (λ here. share_from seq x (sym (eqb-true (x % 16) (seq % 16) (and_right (same_node other name) (share_place x seq) here)))) (placed other x);
  rises = λ rises. rises;
}

greater_up : (a b : ℕ) → a ≤ greater a b
greater_up a b = way_with (nat_le a b) b a (λ (n : ℕ). a ≤ n) (λ le. leb-true a b le) (λ _. omega arith)

pub greater_new : (a b : ℕ) → b ≤ greater a b
greater_new a b = way_with (nat_le a b) b a (λ (n : ℕ). b ≤ n) (λ _. omega arith) (λ gt. let less : b < a = leb-false a b gt in omega (arith, less))

claim_change : (l : Leader) (name : NodeName) (front : ℕ) → Changes l (record l { claims = with_claim l.claims name front })
claim_change l name front = record {
  base = refl;
  front = refl;
  noted = λ s has. has;
  votes = λ other s has. has;
  claims = λ other. either_way (same_node other name) (greater (l.claims other) front) (l.claims other) (λ (n : ℕ). l.claims other ≤ n) (greater_up (l.claims other) front) (omega arith);
  placed = λ placed. placed;
  rises = λ rises. rises;
}

parts_change : (g : ℕ) (l : Leader) (parts : List Record) → Changes l (record l { noted = noted_with g l.noted parts })
parts_change g l parts = record {
  base = refl;
  front = refl;
  noted = λ s has. parts_old g s l.noted parts has;
  votes = λ other s has. has;
  claims = λ other. omega arith;
  placed = λ placed. placed;
  rises = λ rises. rises_parts g l.noted parts rises;
}

-- ---- then it claims

module _ (shape : Shape) (e : ℕ) (before mid : Leader) (changes : Changes before mid) where
  abbrev certified : List Header
  certified = all_certified shape mid

  abbrev front_now : ℕ
  front_now = front_after mid.front certified

  abbrev pub claimed_leader : Leader
  claimed_leader = record mid { front = front_now }

  one_past : (h : Header) → is_certified shape mid h ≡ true → mid.front < h.seq
  unfolding is_certified
  one_past h is =
      ltb-true mid.front h.seq (and_left (nat_lt mid.front h.seq) (is_unanimous shape mid.votes h.seq h.touched) (and_left (nat_lt mid.front h.seq && is_unanimous shape mid.votes h.seq h.touched) (is_after_claimed shape mid h) is))

  all_past : AllByRecursion (λ h. mid.front < h.seq) certified
  all_past = all_then (λ h. is_certified shape mid h ≡ true) (λ h. mid.front < h.seq) one_past certified (all_pass (λ h. is_certified shape mid h) mid.noted)

  front_rises : before.front ≤ front_now
  front_rises =
      ⊎_elim (λ (same : front_now ≡ mid.front). let was : mid.front ≡ before.front = changes.front in omega (arith, same, was))
      (λ (last : (h : Header) × IsAmong h certified × (front_now ≡ h.seq)).
      let over : mid.front < last.0.seq = among_all (λ (h : Header). mid.front < h.seq) certified last.0 last.1 all_past in
      let was : mid.front ≡ before.front = changes.front in
      let is : front_now ≡ last.0.seq = last.2 in
      omega (arith, over, was, is)) (front_last mid.front certified)

  -- nothing that it may claim is left
  none_left : Rises 0 mid.noted → (h : Header) → IsAmong h mid.noted → is_certified shape claimed_leader h ≡ false
  unfolding is_certified
  none_left rises h among =
      let over = front_over mid.front certified (rises_past 0 mid.front certified (rises_filter (λ h. is_certified shape mid h) 0 mid.noted rises) all_past) in
      let up : mid.front ≤ front_now = over.0 in
      let rest : Bool → Bool = λ w. (w && is_unanimous shape mid.votes h.seq h.touched) && is_after_claimed shape mid h in
      by_bool (nat_lt front_now h.seq) (rest (nat_lt front_now h.seq) ≡ false)
      (λ past.
      let less : front_now < h.seq = ltb-true front_now h.seq past in
      let first : nat_lt mid.front h.seq ≡ true = lt-ltb mid.front h.seq (omega (arith, less, up)) in
      by_bool (rest (nat_lt mid.front h.seq)) (rest (nat_lt front_now h.seq) ≡ false)
      (λ is.
      let low : h.seq ≤ front_now = among_all (λ (x : Header). x.seq ≤ front_now) certified h (among_filter-in (λ x. is_certified shape mid x) mid.noted h among is) over.1 in
      absurd (omega (arith, low, less)))
      (λ isnt. ap rest past ∙ (sym (ap rest first) ∙ isnt)))
      (λ behind. ap rest behind)

  settled_then : Rises 0 mid.noted → IsSettled shape claimed_leader
  settled_then rises = record { rises = rises; none = all_among (λ h. is_certified shape claimed_leader h ≡ false) mid.noted (none_left rises) }

  pub claims_then : (outs : List Sending) → LeadsOn shape e before claimed_leader (outs ++ flat_map (λ h. claims_of shape e h.seq) certified)
  claims_then outs = record {
    base = changes.base;
    rises = front_rises;
    claimed = ⊎_elim (λ (same : front_now ≡ mid.front). inl (same ∙ changes.front))
        (λ (last : (h : Header) × IsAmong h certified × (front_now ≡ h.seq)).
        inr (subst (λ (n : ℕ). specs.Claims shape e n (outs ++ flat_map (λ h. claims_of shape e h.seq) certified)) (sym last.2)
        (all_among (λ out. IsAmong out (outs ++ flat_map (λ h. claims_of shape e h.seq) certified)) (claims_of shape e last.0.seq)
        (λ out inside. among_right out outs (flat_map (λ h. claims_of shape e h.seq) certified) (among_flat_map-in (λ (h : Header). claims_of shape e h.seq) last.0 out certified last.1 inside)))))
        (front_last mid.front certified);
    noted = changes.noted;
    votes = changes.votes;
    claims = changes.claims;
    placed = changes.placed;
    settled = λ settled. settled_then (changes.rises settled.rises);
  }

-- a leader that is as it was
pub same_leader : (shape : Shape) (e : ℕ) (l : Leader) (outs : List Sending) → LeadsOn shape e l l outs
same_leader shape e l outs = record {
  base = refl;
  rises = omega arith;
  claimed = inl refl;
  noted = λ s has. has;
  votes = λ name s has. has;
  claims = λ name. omega arith;
  placed = λ placed. placed;
  settled = λ settled. settled;
}

-- ---- a replica stays in its session

module _ (shape : Shape) where
  take_kept_session : (r : Replica) → (take_kept shape r).replica.session ≡ r.session
  unfolding take_kept
  take_kept_session r =
      any_way (λ (t : KeptTaken). t.replica.session ≡ r.session) (λ rec. take_out shape r rec) (record { replica = r; part = None }) (next_kept r)
      (λ rec. either_way (is_accepted shape r.view rec) (record { replica = with_view (without_kept r) (view_after shape r.view rec); part = Some rec }) (record { replica = without_kept r; part = None })
      (λ (t : KeptTaken). t.replica.session ≡ r.session) refl refl) refl

  kept_session : (n : ℕ) (r : Replica) → (kept_in_turn shape n r).replica.session ≡ r.session
  unfolding kept_in_turn
  kept_session zero r = refl
  kept_session (suc n) r =
      any_way (λ (a : Applied). a.replica.session ≡ r.session) (λ rec. after_part rec (kept_in_turn shape n (take_kept shape r).replica)) (no_more (take_kept shape r).replica) (take_kept shape r).part
      (λ rec. kept_session n (take_kept shape r).replica ∙ take_kept_session r) (take_kept_session r)

  early_session : (r : Replica) (rec : Record) → (kept_early r rec).replica.session ≡ r.session
  early_session r rec =
      let P : PartTaken → Type 0 = λ t. t.replica.session ≡ r.session in
      let more : Replica = record r { early = r.early ++ rec ∷ [] } in
      either_way (has_early r.early rec.header.previous) (left_as r Early) (if nat_lt (length r.early) 16 then left_as more Early else left_as r Full) P refl
      (either_way (nat_lt (length r.early) 16) (left_as more Early) (left_as r Full) P refl refl)

  part_session : (g : ℕ) (r : Replica) (rec : Record) → (take_part shape g r rec).replica.session ≡ r.session
  unfolding take_part
  part_session g r rec =
      let P : PartTaken → Type 0 = λ t. t.replica.session ≡ r.session in
      either_way (not (is_for shape g r rec)) (left_as r Foreign) (if nat_le rec.header.seq r.view.number then left_as r Known else (if rec.header.previous == r.view.number then tried shape r rec else kept_early r rec)) P refl
      (either_way (nat_le rec.header.seq r.view.number) (left_as r Known) (if rec.header.previous == r.view.number then tried shape r rec else kept_early r rec) P refl
      (either_way (rec.header.previous == r.view.number) (tried shape r rec) (kept_early r rec) P
      (either_way (is_accepted shape r.view rec) (left_as (with_view r (view_after shape r.view rec)) Next) (left_as r (Differs rec.header.root (view_root shape (view_after shape r.view rec)))) P refl refl)
      (early_session r rec)))

-- ---- every rule

module _ (shape : Shape) (g : ℕ) where
  -- a rule's turn: its leader goes on, in the same session
  record TurnLeads (m : Memory) (t : Turn) : Type 0 where
    session : t.memory.replica.session ≡ m.replica.session
    leads : LeadsOn shape m.replica.session m.leader t.memory.leader t.outs

  quiet_leads : (m : Memory) (r : Replica) (outs : List Sending) → r.session ≡ m.replica.session → TurnLeads m (record { memory = record m { replica = r }; outs = outs; changes = [] })
  quiet_leads m r outs same = record { session = same; leads = same_leader shape m.replica.session m.leader outs }

  -- it claims at the end
  claims_lead : (m : Memory) (t : Turn) → t.memory.replica.session ≡ m.replica.session → Changes m.leader t.memory.leader → TurnLeads m (then_claims shape t)
  claims_lead m t same changes = record {
    session = same;
    leads = subst (λ (e : ℕ). LeadsOn shape m.replica.session m.leader (then_claims shape t).memory.leader (t.outs ++ flat_map (λ h. claims_of shape e h.seq) (all_certified shape t.memory.leader))) (sym same)
        (claims_then shape m.replica.session m.leader t.memory.leader changes t.outs);
  }

  record AnswerLeads (m : Memory) (t : Turn) : Type 0 where
    session : t.memory.replica.session ≡ m.replica.session
    changes : Changes m.leader t.memory.leader

  answered_leads : (m : Memory) (rec : Record) (r : Replica) (answer : PartAnswer) → r.session ≡ m.replica.session → AnswerLeads m (part_answered shape g m rec r answer)
  answered_leads m rec r Next same = record { session = kept_session shape (length r.early) r ∙ same; changes = parts_change g m.leader (after_part rec (all_kept_in_turn shape r)).parts }
  answered_leads m rec r Known same = record { session = refl; changes = no_change m.leader }
  answered_leads m rec r Early same = record { session = same; changes = no_change m.leader }
  answered_leads m rec r Foreign same = record { session = refl; changes = no_change m.leader }
  answered_leads m rec r Full same = record { session = refl; changes = no_change m.leader }
  answered_leads m rec r (Differs root got) same = record { session = refl; changes = no_change m.leader }

  part_leads : (rec : Record) (m : Memory) → TurnLeads m (by_part shape g rec m)
  unfolding by_part
  part_leads rec m =
      let taken : PartTaken = take_part shape g m.replica rec in
      let a = answered_leads m rec taken.replica taken.answer (part_session shape g m.replica rec) in
      claims_lead m (then_answers shape (part_answered shape g m rec taken.replica taken.answer)) a.session a.changes

  ask_session : (a : Ask) (r : Replica) → (take_ask shape g r a).replica.session ≡ r.session
  unfolding take_ask
  ask_session a r =
      let P : AskTaken → Type 0 = λ t. t.replica.session ≡ r.session in
      either_way (not (is_asked_here shape g r a)) (record { replica = r; answer = None })
      (if is_due r.view a then record { replica = r; answer = Some (answer_to shape r.view a) } else record { replica = record r { asks = with_ask r.asks a }; answer = None }) P refl
      (either_way (is_due r.view a) (record { replica = r; answer = Some (answer_to shape r.view a) }) (record { replica = record r { asks = with_ask r.asks a }; answer = None }) P refl refl)

  ask_leads : (a : Ask) (m : Memory) → TurnLeads m (by_ask shape g a m)
  unfolding by_ask
  ask_leads a m = quiet_leads m (take_ask shape g m.replica a).replica _ (ask_session a m.replica)

  vote_leads : (name : NodeName) (v : Prepared) (m : Memory) → TurnLeads m (by_vote shape name v m)
  unfolding by_vote
  vote_leads name v m =
      let voted : Leader = record m.leader { votes = with_vote m.leader.votes name v.seq v.root } in
      either_way ((v.session == m.replica.session) && (v.region == name.region)) (then_claims shape (quiet (with_leader m voted))) (quiet m) (TurnLeads m)
      (claims_lead m (quiet (with_leader m voted)) refl (vote_change m.leader name v.seq v.root))
      (quiet_leads m m.replica [] refl)

  claim_leads : (name : NodeName) (c : Committed) (m : Memory) → TurnLeads m (by_claim shape name c m)
  unfolding by_claim
  claim_leads name c m =
      let told : Leader = record m.leader { claims = with_claim m.leader.claims name c.front } in
      let turn : Turn = then_claims shape (quiet (with_leader m told)) in
      let goes = claims_lead m (quiet (with_leader m told)) refl (claim_change m.leader name c.front) in
      either_way (c.session == m.replica.session) (then_fold shape turn) (quiet m) (TurnLeads m)
      (either_way (folds shape turn.memory)
      (record { memory = after_fold turn.memory (fold_number shape turn.memory); outs = turn.outs; changes = turn.changes ++ FoldsTo (fold_number shape turn.memory) ∷ [] }) turn (TurnLeads m)
      (record { session = goes.session; leads = goes.leads }) goes)
      (quiet_leads m m.replica [] refl)

  dump_leads : (d : _) (m : Memory) → TurnLeads m (by_dump g d m)
  unfolding by_dump
  dump_leads d m = either_way ((d.session == m.replica.session) && (d.region == g)) (dumped g m) (quiet m) (TurnLeads m) (quiet_leads m m.replica _ refl) (quiet_leads m m.replica [] refl)

  tick_leads : (m : Memory) → TurnLeads m (by_tick shape m)
  unfolding by_tick
  tick_leads m = quiet_leads m m.replica _ refl

  module _ (node : NodeState) (m : Memory) (there : node.memory ≡ Some m) where
    abbrev PlanLeads : Plan → Type 0
    PlanLeads plan = (after_changes shape node.held plan.changes).session ≡ node.held.session → MemoryLeadsOn shape m plan.memory plan.outs

    by_rule : (rule : Memory → Turn) → ((k : Memory) → TurnLeads k (rule k)) → (k : Memory) → k ≡ m → PlanLeads (plan_of (rule k))
    by_rule rule each k is =
        subst (λ (x : Memory). PlanLeads (plan_of (rule x))) (sym is)
        (let goes = each m in λ stays. record { m = (rule m).memory; is = refl; session = goes.session; leads = goes.leads })

    as_before : (plan : Plan) → plan.memory ≡ node.memory → PlanLeads plan
    as_before plan same stays = record { m = m; is = same ∙ there; session = refl; leads = same_leader shape m.replica.session m.leader plan.outs }

    switch_leads : (e : ℕ) → PlanLeads (by_switch shape g node e)
    unfolding by_switch after_changes changed
    switch_leads e =
        either_way (e == node.held.session) (says_switched node e) (if nat_lt node.held.session e then option_map_or (λ base. switched shape g node e) (base_held shape g e node.held) (ignored node) else ignored node) PlanLeads
        (as_before (says_switched node e) refl)
        (way_with (nat_lt node.held.session e) (option_map_or (λ base. switched shape g node e) (base_held shape g e node.held) (ignored node)) (ignored node) PlanLeads
        (λ rises. any_way PlanLeads (λ base. switched shape g node e) (ignored node) (base_held shape g e node.held)
        (λ base stays. let up : node.held.session < e = ltb-true node.held.session e rises in let same : e ≡ node.held.session = stays in absurd (omega (arith, up, same))) (as_before (ignored node) refl))
        (λ _. as_before (ignored node) refl))

    planned_leads : (input : Input) → OfInput (λ rec. Unit {0}) (λ a. Unit {0}) input → PlanLeads (planned shape g node input)
    planned_leads input given =
        planned_with shape g node (λ k. k ≡ m) (subst (λ (o : Option Memory). OfSome (λ k. k ≡ m) o) (sym there) refl) (λ rec. Unit {0}) (λ a. Unit {0}) PlanLeads (as_before (ignored node) refl)
        (λ rec k fits is. by_rule (by_part shape g rec) (part_leads rec) k is)
        (λ a k fits is. by_rule (by_ask shape g a) (ask_leads a) k is)
        (λ d k is. by_rule (by_dump g d) (dump_leads d) k is)
        (λ name v k is. by_rule (by_vote shape name v) (vote_leads name v) k is)
        (λ name c k is. by_rule (by_claim shape name c) (claim_leads name c) k is)
        (λ k is. by_rule (by_tick shape) tick_leads k is)
        (λ e. as_before (by_gather node e) (gather_memory shape g node e))
        (λ base. as_before (by_stage shape g node base) (stage_memory shape g node base))
        switch_leads input given

-- nothing is asked of what an input brings
none_given : (input : Input) → OfInput (λ rec. Unit {0}) (λ a. Unit {0}) input
none_given (Receives from bytes) = of_result from (message_at bytes) where
  of_message : (m : Message) → OfLetter (λ rec. Unit {0}) (λ a. Unit {0}) sender.Client m
  of_message (message.Part m) = tt
  of_message (message.Ask m) = tt
  of_message (message.Dump m) = tt
  of_message (message.Gather m) = tt
  of_message (message.Stage m) = tt
  of_message (message.Switch m) = tt
  of_message (message.Prepared m) = tt
  of_message (message.Committed m) = tt
  of_message (message.Answer m) = tt
  of_message (message.Gathered m) = tt
  of_message (message.Staged m) = tt
  of_message (message.Switched m) = tt
  of_message (message.Dumped m) = tt

  of_result : (from : Sender) (r : Result Message MessageError) → OfResult (λ rec. Unit {0}) (λ a. Unit {0}) from r
  of_result sender.Client (Ok m) = of_message m
  of_result (sender.Node name) (Ok m) = tt
  of_result from (Err e) = tt
none_given Ticks = tt

-- The law: along a handling in a session its leader goes on.
pub handled_leads : (shape : Shape) (g : ℕ) (node : NodeState) (input : Input) (m : Memory) → node.memory ≡ Some m → (handled shape g node input).node.held.session ≡ node.held.session
    → MemoryLeadsOn shape m (handled shape g node input).node.memory (handled shape g node input).outs
handled_leads shape g node input m there stays = planned_leads shape g node m there input (none_given input) stays
