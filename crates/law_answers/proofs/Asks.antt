-- An ask is answered or kept, and one that is kept is answered, stays kept, or gives its place to a newer one.
use Rattle.std.proofs.Common.{◌≡◌, ◌∙◌, ◌⊎◌, inl, inr, ⊎_elim, ℕ, zero, suc, ◌<◌, ◌==◌, ◌&&◌, not, nat_lt, nat_le, Bool, true, false, if◌then◌else◌, List, [], ◌∷◌, ◌++◌, length, map, Option, None, Some, refl, sym, ap, subst, arith, bytes_eq, eqb-true}
use Rattle.std.specs.Prelude.{filter, Result, Ok, Err}
use Rattle.std.specs.Option.{option_map_or}
use Rattle.std.proofs.lemmas.Bool.{leb-true, leb-false, ltb-true, eq-eqb, not_from_false, not_from_true, true≢false}
use Rattle.salus_types.specs.Volume.{Shape}
use Rattle.salus_types.specs.declared.names.NodeName.{NodeName}
use Rattle.salus_types.specs.declared.names.Sender.{Sender}
use Rattle.salus_types.specs.declared.names.Sender.TheVariants as sender
use Rattle.salus_types.specs.declared.records.Record.{Record}
use Rattle.salus_types.specs.declared.records.Base.{Base}
use Rattle.salus_message.specs.declared.small.Prepared.{Prepared}
use Rattle.salus_message.specs.declared.small.Committed.{Committed}
use Rattle.salus_message.specs.declared.small.Ask.{Ask}
use Rattle.salus_message.specs.declared.small.Dump.{Dump}
use Rattle.salus_message.specs.declared.wire.Message.{Message}
use Rattle.salus_message.specs.declared.wire.Message.TheVariants as message
use Rattle.salus_message.specs.declared.wire.MessageError.{MessageError}
use Rattle.salus_message.specs.Reading.{message_at}
use Rattle.merkle_region.specs.Tree.{root_of, IsAmong}
use Rattle.merkle_region.proofs.Membership.{among_left, among_right}
use Rattle.holding_model.specs.Fitting.{has_shape}
use Rattle.holding_model.specs.Changing.{FoldsTo, changed, after_changes}
use Rattle.volume_model.specs.Contents.{region_of}
use Rattle.replica_rules.specs.Views.{view_after, view_root, is_accepted}
use Rattle.replica_rules.specs.Replicas.{Replica, with_view, PartAnswer, Foreign, Known, Early, Full, Differs, Next, PartTaken, left_as, is_for, has_early, kept_early, tried, take_part, KeptTaken, next_kept, without_kept, take_out, take_kept, Applied, no_more, after_part, kept_in_turn, take_ask, AskTaken, is_asked_here, is_due, answer_to, with_ask, due_answers}
use Rattle.replica_rules.specs.Voting.{with_vote, with_claim}
use Rattle.replica_rules.specs.Nodes.{Memory, NodeState, base_held}
use Rattle.replica_rules.specs.Rules.{Sending, Turn, Plan, quiet, plan_of, ignored, told_client, then_claims, then_answers, part_answered, by_part, ask_taken, by_ask, is_carried, by_gather, says_staged, staged, staged_again, staged_whole, staged_from, staged_anew, is_staged_here, by_stage, same_record, says_switched, switched, by_switch, dumped, by_dump, with_leader, by_vote, fold_number, folds, after_fold, then_fold, by_claim, by_tick, from_result, Input, Receives, Ticks, planned, handled}
use Rattle.list_lemmas.proofs.Each.{either_way, OfSome, any_way}
use Rattle.list_lemmas.proofs.Members.{among_map-in, among_filter-in}
use Rattle.list_lemmas.proofs.Tests.{by_bool, way_with}
use Rattle.law_answers.specs.Owing.{Answers, Keeps, KeepsIn, BringsAsk, IsSeenTo}
use Rattle.law_answers.proofs.Rules.{OfMessage, OfResult, OfInput, planned_with}

-- ---- a part changes no ask

module _ (shape : Shape) where
  early_asks : (r : Replica) (rec : Record) → (kept_early r rec).replica.asks ≡ r.asks
  early_asks r rec =
      let P : PartTaken → Type 0 = λ t. t.replica.asks ≡ r.asks in
      either_way (has_early r.early rec.header.previous) (left_as r Early) (if nat_lt (length r.early) 16 then left_as (record r { early = r.early ++ rec ∷ [] }) Early else left_as r Full) P refl
      (either_way (nat_lt (length r.early) 16) (left_as (record r { early = r.early ++ rec ∷ [] }) Early) (left_as r Full) P refl refl)

  tried_asks : (r : Replica) (rec : Record) → (tried shape r rec).replica.asks ≡ r.asks
  tried_asks r rec =
      either_way (is_accepted shape r.view rec) (left_as (with_view r (view_after shape r.view rec)) Next) (left_as r (Differs rec.header.root (view_root shape (view_after shape r.view rec))))
      (λ (t : PartTaken). t.replica.asks ≡ r.asks) refl refl

  taken_asks : (g : ℕ) (r : Replica) (rec : Record) → (take_part shape g r rec).replica.asks ≡ r.asks
  unfolding take_part
  taken_asks g r rec =
      let P : PartTaken → Type 0 = λ t. t.replica.asks ≡ r.asks in
      either_way (not (is_for shape g r rec)) (left_as r Foreign) (if nat_le rec.header.seq r.view.number then left_as r Known else (if rec.header.previous == r.view.number then tried shape r rec else kept_early r rec)) P refl
      (either_way (nat_le rec.header.seq r.view.number) (left_as r Known) (if rec.header.previous == r.view.number then tried shape r rec else kept_early r rec) P refl
      (either_way (rec.header.previous == r.view.number) (tried shape r rec) (kept_early r rec) P (tried_asks r rec) (early_asks r rec)))

  kept_asks : (r : Replica) → (take_kept shape r).replica.asks ≡ r.asks
  unfolding take_kept
  kept_asks r =
      let P : KeptTaken → Type 0 = λ t. t.replica.asks ≡ r.asks in
      any_way P (λ rec. take_out shape r rec) (record { replica = r; part = None }) (next_kept r)
      (λ rec. either_way (is_accepted shape r.view rec) (record { replica = with_view (without_kept r) (view_after shape r.view rec); part = Some rec }) (record { replica = without_kept r; part = None }) P refl refl) refl

  turn_asks : (n : ℕ) (r : Replica) → (kept_in_turn shape n r).replica.asks ≡ r.asks
  unfolding kept_in_turn
  turn_asks zero r = refl
  turn_asks (suc n) r =
      let next : Replica = (take_kept shape r).replica in
      any_way (λ (t : Applied). t.replica.asks ≡ r.asks) (λ rec. after_part rec (kept_in_turn shape n next)) (no_more next) (take_kept shape r).part
      (λ rec. turn_asks n next ∙ kept_asks r) (kept_asks r)

  answered_asks : (g : ℕ) (m : Memory) (rec : Record) (r : Replica) (answer : PartAnswer) → r.asks ≡ m.replica.asks → (part_answered shape g m rec r answer).memory.replica.asks ≡ m.replica.asks
  answered_asks g m rec r Next same = turn_asks (length r.early) r ∙ same
  answered_asks g m rec r Known same = refl
  answered_asks g m rec r Early same = same
  answered_asks g m rec r Foreign same = refl
  answered_asks g m rec r Full same = refl
  answered_asks g m rec r (Differs root got) same = refl

  -- ---- then each kept ask is answered or isn't due

  answers_at : (m : Memory) (ask : Ask) (outs : List Sending) → is_due m.replica.view ask ≡ true → IsAmong (record { to = sender.Client; message = message.Answer (answer_to shape m.replica.view ask) }) outs
      → Answers shape ask outs (Some m)
  answers_at m ask outs due sent = record { m = m; is = refl; sent = sent; late = leb-true ask.at m.replica.view.number due }

  -- the asks of a turn before its answers are those after them, or are answered
  seen_then : (turn : Turn) (input : Input) (ask : Ask) → IsAmong ask turn.memory.replica.asks
      → IsSeenTo shape input ask (then_claims shape (then_answers shape turn)).outs (Some (then_claims shape (then_answers shape turn)).memory)
  seen_then turn input ask among =
      let r : Replica = turn.memory.replica in
      by_bool (is_due r.view ask) (IsSeenTo shape input ask (then_claims shape (then_answers shape turn)).outs (Some (then_claims shape (then_answers shape turn)).memory))
      (λ due.
      let answer = answer_to shape r.view ask in
      let out : Sending = record { to = sender.Client; message = message.Answer answer } in
      let one = among_map-in (λ (a : Ask). answer_to shape r.view a) (filter (λ a. is_due r.view a) r.asks) ask (among_filter-in (λ a. is_due r.view a) r.asks ask among due) in
      let two : IsAmong out (map (λ a. record { to = sender.Client; message = message.Answer a }) (due_answers shape r)) =
      among_map-in (λ a. record { to = sender.Client; message = message.Answer a }) (due_answers shape r) answer one in
      inl (answers_at (then_claims shape (then_answers shape turn)).memory ask _ due (among_left out (then_answers shape turn).outs _ (among_right out turn.outs _ two))))
      (λ early.
      inr (ask, inl refl, record { kept = among_filter-in (λ a. not (is_due r.view a)) r.asks ask among (not_from_false (is_due r.view ask) early); early = leb-false ask.at r.view.number early }))

  seen_by_part : (g : ℕ) (rec : Record) (m : Memory) (input : Input) (ask : Ask) → IsAmong ask m.replica.asks → IsSeenTo shape input ask (by_part shape g rec m).outs (Some (by_part shape g rec m).memory)
  unfolding by_part
  seen_by_part g rec m input ask among =
      let taken : PartTaken = take_part shape g m.replica rec in
      let turn : Turn = part_answered shape g m rec taken.replica taken.answer in
      seen_then turn input ask (subst (λ (l : List Ask). IsAmong ask l) (sym (answered_asks g m rec taken.replica taken.answer (taken_asks g m.replica rec))) among)

  -- ---- an ask

  new_among : (asks : List Ask) (ask : Ask) → IsAmong ask (with_ask asks ask)
  unfolding with_ask
  new_among [] ask = inl refl
  new_among (other ∷ asks) ask =
      either_way (nat_lt ask.read other.read) (ask ∷ other ∷ asks) (if ask.read == other.read then ask ∷ asks else other ∷ with_ask asks ask) (λ l. IsAmong ask l) (inl refl)
      (either_way (ask.read == other.read) (ask ∷ asks) (other ∷ with_ask asks ask) (λ l. IsAmong ask l) (inl refl) (inr (new_among asks ask)))

  old_among : (asks : List Ask) (new ask : Ask) → IsAmong ask asks → IsAmong ask (with_ask asks new) ⊎ (new.read ≡ ask.read)
  unfolding with_ask
  old_among [] new ask among = absurd among
  old_among (other ∷ asks) new ask among =
      let P : List Ask → Type 0 = λ l. IsAmong ask l ⊎ (new.read ≡ ask.read) in
      either_way (nat_lt new.read other.read) (new ∷ other ∷ asks) (if new.read == other.read then new ∷ asks else other ∷ with_ask asks new) P (inl (inr among))
      (way_with (new.read == other.read) (new ∷ asks) (other ∷ with_ask asks new) P
      (λ same. ⊎_elim (λ (is : ask ≡ other). inr (eqb-true new.read other.read same ∙ ap (λ (a : Ask). a.read) (sym is))) (λ (in_rest : IsAmong ask asks). inl (inr in_rest)) among)
      (λ apart. ⊎_elim (λ (is : ask ≡ other). inl (inl is)) (λ (in_rest : IsAmong ask asks).
      ⊎_elim (λ (still : IsAmong ask (with_ask asks new)). inl (inr still)) (λ (same : new.read ≡ ask.read). inr same) (old_among asks new ask in_rest)) among))

  -- an ask of the session, and of a block of the region
  seen_taken : (g : ℕ) (m : Memory) (input : Input) (ask : Ask) → is_asked_here shape g m.replica ask ≡ true → IsSeenTo shape input ask (by_ask shape g ask m).outs (Some (by_ask shape g ask m).memory)
  unfolding by_ask take_ask
  seen_taken g m input ask here =
      let r : Replica = m.replica in
      let P : AskTaken → Type 0 = λ t. IsSeenTo shape input ask (ask_taken m t).outs (Some (ask_taken m t).memory) in
      way_with (not (is_asked_here shape g r ask)) (record { replica = r; answer = None })
      (if is_due r.view ask then record { replica = r; answer = Some (answer_to shape r.view ask) } else record { replica = record r { asks = with_ask r.asks ask }; answer = None }) P
      (λ away. absurd (true≢false (sym away ∙ not_from_true (is_asked_here shape g r ask) here)))
      (λ _. way_with (is_due r.view ask) (record { replica = r; answer = Some (answer_to shape r.view ask) }) (record { replica = record r { asks = with_ask r.asks ask }; answer = None }) P
      (λ due. inl (answers_at (ask_taken m (record { replica = r; answer = Some (answer_to shape r.view ask) })).memory ask _ due (inl refl)))
      (λ early. inr (ask, inl refl, record { kept = new_among r.asks ask; early = leb-false ask.at r.view.number early })))

  -- a kept one, through another
  seen_by_ask : (g : ℕ) (new : Ask) (m : Memory) (input : Input) (ask : Ask) → BringsAsk input new → Keeps ask m.replica → IsSeenTo shape input ask (by_ask shape g new m).outs (Some (by_ask shape g new m).memory)
  unfolding by_ask take_ask
  seen_by_ask g new m input ask brings keeps =
      let r : Replica = m.replica in
      let P : AskTaken → Type 0 = λ t. IsSeenTo shape input ask (ask_taken m t).outs (Some (ask_taken m t).memory) in
      either_way (not (is_asked_here shape g r new)) (record { replica = r; answer = None })
      (if is_due r.view new then record { replica = r; answer = Some (answer_to shape r.view new) } else record { replica = record r { asks = with_ask r.asks new }; answer = None }) P
      (inr (ask, inl refl, record { kept = keeps.kept; early = keeps.early }))
      (way_with (is_due r.view new) (record { replica = r; answer = Some (answer_to shape r.view new) }) (record { replica = record r { asks = with_ask r.asks new }; answer = None }) P
      (λ due. inr (ask, inl refl, record { kept = keeps.kept; early = keeps.early }))
      (λ early.
      ⊎_elim (λ (still : IsAmong ask (with_ask r.asks new)). inr (ask, inl refl, record { kept = still; early = keeps.early }))
      (λ (same : new.read ≡ ask.read). inr (new, inr (same, brings), record { kept = new_among r.asks new; early = leb-false new.at r.view.number early }))
      (old_among r.asks new ask keeps.kept)))

-- ---- the client's ask, as the input brings it

brings_message : (bytes : List ℕ) (m : Message) → message_at bytes ≡ Ok m → OfMessage (λ rec. Unit {0}) (BringsAsk (Receives sender.Client bytes)) m
brings_message bytes (message.Ask a) is = is
brings_message bytes (message.Part m) is = tt
brings_message bytes (message.Gather m) is = tt
brings_message bytes (message.Stage m) is = tt
brings_message bytes (message.Switch m) is = tt
brings_message bytes (message.Dump m) is = tt
brings_message bytes (message.Prepared m) is = tt
brings_message bytes (message.Committed m) is = tt
brings_message bytes (message.Answer m) is = tt
brings_message bytes (message.Gathered m) is = tt
brings_message bytes (message.Staged m) is = tt
brings_message bytes (message.Switched m) is = tt
brings_message bytes (message.Dumped m) is = tt

brings_result : (from : Sender) (bytes : List ℕ) (r : Result Message MessageError) → message_at bytes ≡ r → OfResult (λ rec. Unit {0}) (BringsAsk (Receives from bytes)) from r
brings_result sender.Client bytes (Ok m) is = brings_message bytes m is
brings_result (sender.Node name) bytes (Ok m) is = tt
brings_result from bytes (Err e) is = tt

brings : (input : Input) → OfInput (λ rec. Unit {0}) (BringsAsk input) input
brings (Receives from bytes) = brings_result from bytes (message_at bytes) refl
brings Ticks = tt

some_keeps : (ask : Ask) (o : Option Memory) → KeepsIn ask o → OfSome (λ m. Keeps ask m.replica) o
some_keeps ask None k = tt
some_keeps ask (Some m) k = k

-- ---- rules that change neither view, early parts nor asks

module _ (shape : Shape) (g : ℕ) (node : NodeState) where
  pub vote_replica : (name : NodeName) (v : Prepared) (m : Memory) → (by_vote shape name v m).memory.replica ≡ m.replica
  unfolding by_vote
  vote_replica name v m =
      either_way ((v.session == m.replica.session) && (v.region == name.region))
      (then_claims shape (quiet (with_leader m (record m.leader { votes = with_vote m.leader.votes name v.seq v.root })))) (quiet m) (λ (t : Turn). t.memory.replica ≡ m.replica) refl refl

  pub claim_replica : (name : NodeName) (c : Committed) (m : Memory) → (by_claim shape name c m).memory.replica ≡ m.replica
  unfolding by_claim
  claim_replica name c m =
      let P : Turn → Type 0 = λ t. t.memory.replica ≡ m.replica in
      let turn : Turn = then_claims shape (quiet (with_leader m (record m.leader { claims = with_claim m.leader.claims name c.front }))) in
      either_way (c.session == m.replica.session) (then_fold shape turn) (quiet m) P
      (either_way (folds shape turn.memory)
      (record { memory = after_fold turn.memory (fold_number shape turn.memory); outs = turn.outs; changes = turn.changes ++ FoldsTo (fold_number shape turn.memory) ∷ [] }) turn P refl refl) refl

  pub dump_replica : (d : Dump) (m : Memory) → (by_dump g d m).memory.replica ≡ m.replica
  unfolding by_dump
  dump_replica d m = either_way ((d.session == m.replica.session) && (d.region == g)) (dumped g m) (quiet m) (λ (t : Turn). t.memory.replica ≡ m.replica) refl refl

  pub tick_replica : (m : Memory) → (by_tick shape m).memory.replica ≡ m.replica
  unfolding by_tick
  tick_replica m = refl

  pub gather_memory : (e : ℕ) → (by_gather node e).memory ≡ node.memory
  unfolding by_gather
  gather_memory e = either_way (is_carried node.held) (told_client node (message.Gathered (record { session = e; held = node.held }))) (ignored node) (λ (p : Plan). p.memory ≡ node.memory) refl refl

  anew_memory : (base : Base) → (staged_anew shape node base).memory ≡ node.memory
  anew_memory base =
      let P : Plan → Type 0 = λ p. p.memory ≡ node.memory in
      either_way (length base.blocks == 0) (option_map_or (λ m. staged_from shape node base.rec m) node.memory (ignored node)) (staged_whole shape node base) P
      (any_way P (λ m. staged_from shape node base.rec m) (ignored node) node.memory
      (λ m. either_way (bytes_eq (view_root shape m.replica.view) base.rec.header.root) (staged node base.rec m.replica.view.blocks) (ignored node) P refl refl) refl)
      (either_way (has_shape shape base.blocks && bytes_eq (root_of shape.height base.blocks) base.rec.header.root) (staged node base.rec base.blocks) (ignored node) P refl refl)

  pub stage_memory : (base : Base) → (by_stage shape g node base).memory ≡ node.memory
  unfolding by_stage
  stage_memory base =
      let P : Plan → Type 0 = λ p. p.memory ≡ node.memory in
      either_way (is_staged_here g node base.rec.header)
      (option_map_or (λ old. staged_again node base.rec old) (base_held shape g base.rec.header.session node.held) (staged_anew shape node base)) (ignored node) P
      (any_way P (λ old. staged_again node base.rec old) (staged_anew shape node base) (base_held shape g base.rec.header.session node.held)
      (λ old. either_way (same_record old.rec base.rec) (says_staged node base.rec.header.session) (ignored node) P refl refl) (anew_memory base)) refl

-- ---- every rule

module _ (shape : Shape) (g : ℕ) (node : NodeState) (input : Input) (ask : Ask) (there : KeepsIn ask node.memory) where
  abbrev Seen : Plan → Type 0
  Seen plan = (after_changes shape node.held plan.changes).session ≡ node.held.session → IsSeenTo shape input ask plan.outs plan.memory

  -- the memory is as before
  as_before : (plan : Plan) → plan.memory ≡ node.memory → Seen plan
  as_before plan same stays = inr (ask, inl refl, subst (λ (o : Option Memory). KeepsIn ask o) (sym same) there)

  turn_seen : (turn : Turn) (m : Memory) → turn.memory.replica ≡ m.replica → Keeps ask m.replica → Seen (plan_of turn)
  turn_seen turn m same keeps stays = inr (ask, inl refl, subst (λ (r : Replica). Keeps ask r) (sym same) keeps)

  by_switch_seen : (e : ℕ) → Seen (by_switch shape g node e)
  unfolding by_switch after_changes changed
  by_switch_seen e =
      either_way (e == node.held.session) (says_switched node e) (if nat_lt node.held.session e then option_map_or (λ base. switched shape g node e) (base_held shape g e node.held) (ignored node) else ignored node) Seen
      (as_before (says_switched node e) refl)
      (way_with (nat_lt node.held.session e) (option_map_or (λ base. switched shape g node e) (base_held shape g e node.held) (ignored node)) (ignored node) Seen
      (λ rises. any_way Seen (λ base. switched shape g node e) (ignored node) (base_held shape g e node.held)
      (λ base stays. let up : node.held.session < e = ltb-true node.held.session e rises in let same : e ≡ node.held.session = stays in absurd (omega arith)) (as_before (ignored node) refl))
      (λ _. as_before (ignored node) refl))

  planned_seen : Seen (planned shape g node input)
  planned_seen =
      planned_with shape g node (λ m. Keeps ask m.replica) (some_keeps ask node.memory there) (λ rec. Unit {0}) (BringsAsk input) Seen (as_before (ignored node) refl)
      (λ rec m given keeps stays. seen_by_part shape g rec m input ask keeps.kept)
      (λ new m given keeps stays. seen_by_ask shape g new m input ask given keeps)
      (λ d m keeps. turn_seen (by_dump g d m) m (dump_replica shape g node d m) keeps)
      (λ name v m keeps. turn_seen (by_vote shape name v m) m (vote_replica shape g node name v m) keeps)
      (λ name c m keeps. turn_seen (by_claim shape name c m) m (claim_replica shape g node name c m) keeps)
      (λ m keeps. turn_seen (by_tick shape m) m (tick_replica shape g node m) keeps)
      (λ e. as_before (by_gather node e) (gather_memory shape g node e))
      (λ base. as_before (by_stage shape g node base) (stage_memory shape g node base))
      by_switch_seen input (brings input)

-- The law: an ask that is kept.
pub kept_seen : (shape : Shape) (g : ℕ) (node : NodeState) (input : Input) (ask : Ask) → KeepsIn ask node.memory → (handled shape g node input).node.held.session ≡ node.held.session
    → IsSeenTo shape input ask (handled shape g node input).outs (handled shape g node input).node.memory
kept_seen shape g node input ask there stays = planned_seen shape g node input ask there stays

-- ---- an ask that is handed over

plan_seen : (shape : Shape) (g : ℕ) (node : NodeState) (input : Input) (ask : Ask) (o : Option Memory) (m : Memory) → o ≡ Some m → is_asked_here shape g m.replica ask ≡ true
    → let plan : Plan = option_map_or (λ k. plan_of (by_ask shape g ask k)) o (ignored node) in IsSeenTo shape input ask plan.outs plan.memory
plan_seen shape g node input ask o m is here =
    subst (λ (o : Option Memory). let plan : Plan = option_map_or (λ k. plan_of (by_ask shape g ask k)) o (ignored node) in IsSeenTo shape input ask plan.outs plan.memory) (sym is) (seen_taken shape g m input ask here)

pub both_true : (a b : Bool) → a ≡ true → b ≡ true → (a && b) ≡ true
both_true true b ha hb = hb
both_true false b ha hb = ha

-- The law: an ask of the session and region is answered or kept.
pub taken_seen : (shape : Shape) (g : ℕ) (node : NodeState) (m : Memory) (bytes : List ℕ) (ask : Ask) → node.memory ≡ Some m → message_at bytes ≡ Ok (message.Ask ask) → ask.session ≡ m.replica.session
    → region_of shape ask.block ≡ g → IsSeenTo shape (Receives sender.Client bytes) ask (handled shape g node (Receives sender.Client bytes)).outs (handled shape g node (Receives sender.Client bytes)).node.memory
unfolding planned
taken_seen shape g node m bytes ask is decoded session region =
    let input : Input = Receives sender.Client bytes in
    let here : is_asked_here shape g m.replica ask ≡ true = both_true (ask.session == m.replica.session) (region_of shape ask.block == g) (eq-eqb ask.session m.replica.session session) (eq-eqb (region_of shape ask.block) g region) in
    subst (λ (r : Result Message MessageError). IsSeenTo shape input ask (from_result shape g node sender.Client r).outs (from_result shape g node sender.Client r).memory) (sym decoded)
    (plan_seen shape g node input ask node.memory m is here)
