-- A node votes for each part that its view reaches, and notes those that its region leads.
use Rattle.std.proofs.Common.{◌≡◌, ◌∙◌, inl, inr, ℕ, zero, suc, ◌<◌, ◌≤◌, ◌==◌, ◌&&◌, not, nat_lt, nat_le, Bool, true, false, if◌then◌else◌, List, [], ◌∷◌, ◌++◌, length, Option, None, Some, refl, sym, ap, subst, arith, eqb-true}
use Rattle.std.specs.Prelude.{flat_map, map}
use Rattle.std.specs.Option.{option_map_or}
use Rattle.std.specs.List.{AllByRecursion}
use Rattle.std.proofs.lemmas.Bool.{true≢false, eq-eqb, leb-true, leb-false, ltb-true}
use Rattle.salus_types.specs.Volume.{Shape}
use Rattle.salus_types.specs.declared.names.NodeName.{NodeName}
use Rattle.salus_types.specs.declared.names.Sender.TheVariants as sender
use Rattle.salus_types.specs.declared.records.Header.{Header}
use Rattle.salus_types.specs.declared.records.Record.{Record}
use Rattle.salus_message.specs.declared.small.Ask.{Ask}
use Rattle.salus_message.specs.declared.small.Committed.{Committed}
use Rattle.salus_message.specs.declared.small.Dump.{Dump}
use Rattle.salus_message.specs.declared.small.Prepared.{Prepared}
use Rattle.salus_message.specs.declared.wire.Message.TheVariants as message
use Rattle.merkle_region.specs.Tree.{IsAmong}
use Rattle.merkle_region.proofs.Membership.{among_left}
use Rattle.holding_model.specs.Changing.{FoldsTo, changed, after_changes}
use Rattle.replica_rules.specs.Views.{View, view_after, view_root, is_accepted}
use Rattle.replica_rules.specs.Voting.{with_vote, with_claim}
use Rattle.replica_rules.specs.Leading.{all_certified}
use Rattle.replica_rules.specs.Replicas.{Replica, with_view, Foreign, Known, Early, Full, Differs, Next, PartTaken, left_as, is_for, has_early, kept_early, tried, take_part, KeptTaken, next_kept, without_kept, take_out, take_kept, Applied, no_more, after_part, kept_in_turn, all_kept_in_turn, due_answers, take_ask, AskTaken, is_asked_here, is_due, answer_to, with_ask}
use Rattle.replica_rules.specs.Nodes.{Memory, NodeState, base_held}
use Rattle.replica_rules.specs.Rules.{Sending, Turn, Plan, quiet, then_claims, with_leader, dumped, fold_number, folds, after_fold, then_fold, plan_of, ignored, votes_for, claims_of, then_answers, part_answered, part_taken, by_part, by_ask, by_dump, by_vote, by_claim, by_tick, by_gather, by_stage, says_switched, switched, by_switch, Input, planned, handled}
use Rattle.list_lemmas.proofs.Each.{either_way, any_way, some_way, OfSome, all_filter, all_then}
use Rattle.list_lemmas.proofs.Members.{all_among, among_all, among_flat_map-in, found_among}
use Rattle.list_lemmas.proofs.Tests.{by_bool, way_with}
use Rattle.law_answers.specs.Turning.{IsChain, IsInTurn, BringsPart}
use Rattle.law_answers.proofs.Asks.{vote_replica, claim_replica, dump_replica, tick_replica, gather_memory, stage_memory}
use Rattle.law_answers.proofs.Parts.{given_input}
use Rattle.law_answers.proofs.Rules.{OfInput, planned_with}
use Rattle.law_claimed.specs.Leading.{IsVotedFor, IsNotedOf, VotesForNew}
use Rattle.law_claimed.proofs.Noted.{parts_new, parts_were}

module _ (shape : Shape) (IsPart : Record → Type 0) (IsView : View → Type 0) (chain : IsChain shape IsPart IsView) (g : ℕ) where
  -- ---- the parts that are applied

  -- one of its number was applied
  record IsApplied (rec : Record) (parts : List Record) : Type 0 where
    same : Record
    among : IsAmong same parts
    part : IsPart same
    number : same.header.seq ≡ rec.header.seq

  -- so each part that the view has reached by these
  abbrev Covers : Replica → Applied → Type 0
  Covers r a = (rec : Record) → IsPart rec → r.view.number < rec.header.seq → rec.header.seq ≤ a.replica.view.number → IsApplied rec a.parts

  none_covers : (r : Replica) → Covers r (no_more r)
  none_covers r rec part over under = absurd (omega (arith, over, under))

  -- a part that goes on from the view, and others behind it
  next_covers : (r : Replica) (first : Record) (a : Applied) → IsView r.view → IsPart first → first.header.previous ≡ r.view.number
      → ((rec : Record) → IsPart rec → first.header.seq < rec.header.seq → rec.header.seq ≤ a.replica.view.number → IsApplied rec a.parts) → Covers r (after_part first a)
  next_covers r first a view mine at rest rec part over under =
      by_bool (nat_le rec.header.seq first.header.seq) (IsApplied rec (first ∷ a.parts))
      (λ le.
      let within : rec.header.seq ≤ first.header.seq = leb-true rec.header.seq first.header.seq le in
      let low : r.view.number ≤ rec.header.previous = chain.between r.view rec view part over in
      let number : first.header.seq ≡ rec.header.seq =
      by_bool (rec.header.previous == r.view.number) (first.header.seq ≡ rec.header.seq)
      (λ same. chain.one first rec mine part (at ∙ sym (eqb-true rec.header.previous r.view.number same)))
      (λ apart.
      let more : first.header.previous < rec.header.previous =
      by_bool (nat_le rec.header.previous first.header.previous) (first.header.previous < rec.header.previous)
      (λ down. let high : rec.header.previous ≤ first.header.previous = leb-true rec.header.previous first.header.previous down in
      absurd (true≢false (sym (eq-eqb rec.header.previous r.view.number (omega (arith, high, low, at))) ∙ apart)))
      (λ up. leb-false rec.header.previous first.header.previous up) in
      let far : first.header.seq ≤ rec.header.previous = chain.apart first rec mine part more in
      let rises : rec.header.previous < rec.header.seq = chain.rises rec part in
      absurd (omega (arith, far, rises, within))) in
      record { same = first; among = inl refl; part = mine; number = number })
      (λ gt.
      let later = rest rec part (leb-false rec.header.seq first.header.seq gt) under in
      record { same = later.same; among = inr later.among; part = later.part; number = later.number })

  -- what is applied is of these parts
  kept_parts : (n : ℕ) (r : Replica) → AllByRecursion IsPart r.early → AllByRecursion IsPart (kept_in_turn shape n r).parts
  unfolding kept_in_turn take_kept
  kept_parts zero r early = tt
  kept_parts (suc n) r early =
      let F : KeptTaken → Applied = λ t. option_map_or (λ rec. after_part rec (kept_in_turn shape n t.replica)) t.part (no_more t.replica) in
      let P : KeptTaken → Type 0 = λ t. AllByRecursion IsPart (F t).parts in
      some_way (λ rec. IsAmong rec r.early × ((rec.header.previous == r.view.number) ≡ true)) P (λ rec. take_out shape r rec) (record { replica = r; part = None }) (next_kept r)
      (found_among (λ rec. rec.header.previous == r.view.number) r.early)
      (λ rec found.
      let left : Replica = with_view (without_kept r) (view_after shape r.view rec) in
      either_way (is_accepted shape r.view rec) (record { replica = left; part = Some rec }) (record { replica = without_kept r; part = None }) P
      (among_all IsPart r.early rec found.0 early, kept_parts n left (all_filter IsPart (λ e. not (e.header.previous == r.view.number)) r.early early)) tt)
      tt

  kept_covers : (n : ℕ) (r : Replica) → IsView r.view → AllByRecursion IsPart r.early → Covers r (kept_in_turn shape n r)
  unfolding kept_in_turn take_kept
  kept_covers zero r view early = none_covers r
  kept_covers (suc n) r view early =
      let F : KeptTaken → Applied = λ t. option_map_or (λ rec. after_part rec (kept_in_turn shape n t.replica)) t.part (no_more t.replica) in
      some_way (λ rec. IsAmong rec r.early × ((rec.header.previous == r.view.number) ≡ true)) (λ (t : KeptTaken). Covers r (F t)) (λ rec. take_out shape r rec) (record { replica = r; part = None }) (next_kept r)
      (found_among (λ rec. rec.header.previous == r.view.number) r.early)
      (λ rec found.
      let mine : IsPart rec = among_all IsPart r.early rec found.0 early in
      let at : rec.header.previous ≡ r.view.number = eqb-true rec.header.previous r.view.number found.1 in
      let left : Replica = with_view (without_kept r) (view_after shape r.view rec) in
      way_with (is_accepted shape r.view rec) (record { replica = left; part = Some rec }) (record { replica = without_kept r; part = None }) (λ (t : KeptTaken). Covers r (F t))
      (λ _. next_covers r rec (kept_in_turn shape n left) view mine at
      (kept_covers n left (chain.after r.view rec view mine at) (all_filter IsPart (λ e. not (e.header.previous == r.view.number)) r.early early)))
      (λ refused. absurd (true≢false (sym (chain.accepts r.view rec view mine at) ∙ refused))))
      (none_covers r)

  -- ---- a part that is handed over

  module _ (m : Memory) (turn : IsInTurn IsPart IsView m.replica) where
    abbrev r : Replica
    r = m.replica

    -- what a turn of the node says of the parts that its view reaches
    abbrev VotesIn : Turn → Type 0
    VotesIn t = (rec : Record) → IsPart rec → r.view.number < rec.header.seq → rec.header.seq ≤ t.memory.replica.view.number → IsVotedFor shape g IsPart rec t.outs t.memory.leader

    same_view : (t : Turn) → t.memory.replica.view.number ≡ r.view.number → VotesIn t
    same_view t same rec part over under = absurd (omega (arith, over, under, same))

    abbrev HeadersIn : Turn → Type 0
    HeadersIn t = (h : Header) → IsAmong h t.memory.leader.noted → IsNotedOf IsPart m.leader.noted h

    same_noted : (t : Turn) → t.memory.leader.noted ≡ m.leader.noted → HeadersIn t
    same_noted t same h among = inl (subst (λ (l : List Header). IsAmong h l) same among)

    early_parts : AllByRecursion IsPart r.early
    early_parts = all_then (λ rec. IsPart rec × (r.view.number < rec.header.previous)) IsPart (λ rec of. of.0) r.early turn.early

    module _ (rec : Record) where
      abbrev taken_by : PartTaken → Turn
      taken_by t = part_taken shape g m rec t

      -- the parts that were applied are voted for
      next_votes : (next : Replica) → Covers r (after_part rec (all_kept_in_turn shape next)) → VotesIn (taken_by (left_as next Next))
      next_votes next covers other part over under =
          let applied : Applied = after_part rec (all_kept_in_turn shape next) in
          let found = covers other part over under in
          let t : Turn = then_answers shape (part_answered shape g m rec next Next) in
          let answers : List Sending = map (λ answer. record { to = sender.Client; message = message.Answer answer }) (due_answers shape applied.replica) in
          let votes : List Sending = flat_map (λ rec. votes_for shape rec) applied.parts in
          let claims : List Sending = flat_map (λ h. claims_of shape t.memory.replica.session h.seq) (all_certified shape t.memory.leader) in
          record {
            same = found.same;
            part = found.part;
            number = found.number;
            votes = all_among (λ out. IsAmong out ((votes ++ answers) ++ claims)) (votes_for shape found.same)
                (λ out inside. among_left out (votes ++ answers) claims (among_left out votes answers (among_flat_map-in (λ (x : Record). votes_for shape x) found.same out applied.parts found.among inside)));
            noted = λ led. parts_new g m.leader.noted applied.parts found.same found.among led;
          }

      tried_votes : IsPart rec → (rec.header.previous == r.view.number) ≡ true → VotesIn (taken_by (tried shape r rec))
      tried_votes mine goes =
          let at : rec.header.previous ≡ r.view.number = eqb-true rec.header.previous r.view.number goes in
          let next : Replica = with_view r (view_after shape r.view rec) in
          way_with (is_accepted shape r.view rec) (left_as next Next) (left_as r (Differs rec.header.root (view_root shape (view_after shape r.view rec)))) (λ (t : PartTaken). VotesIn (taken_by t))
          (λ _. next_votes next (next_covers r rec (all_kept_in_turn shape next) turn.view mine at (kept_covers (length r.early) next (chain.after r.view rec turn.view mine at) early_parts)))
          (λ _. same_view (taken_by (left_as r (Differs rec.header.root (view_root shape (view_after shape r.view rec))))) refl)

      early_votes : VotesIn (taken_by (kept_early r rec))
      early_votes =
          let more : Replica = record r { early = r.early ++ rec ∷ [] } in
          either_way (has_early r.early rec.header.previous) (left_as r Early) (if nat_lt (length r.early) 16 then left_as more Early else left_as r Full) (λ (t : PartTaken). VotesIn (taken_by t))
          (same_view (taken_by (left_as r Early)) refl)
          (either_way (nat_lt (length r.early) 16) (left_as more Early) (left_as r Full) (λ (t : PartTaken). VotesIn (taken_by t)) (same_view (taken_by (left_as more Early)) refl) (same_view (taken_by (left_as r Full)) refl))

      part_votes : (is_for shape g r rec ≡ true → IsPart rec) → VotesIn (by_part shape g rec m)
      unfolding by_part take_part
      part_votes given =
          way_with (not (is_for shape g r rec)) (left_as r Foreign) (if nat_le rec.header.seq r.view.number then left_as r Known else (if rec.header.previous == r.view.number then tried shape r rec else kept_early r rec))
          (λ (t : PartTaken). VotesIn (taken_by t)) (λ _. same_view (taken_by (left_as r Foreign)) refl)
          (λ its. either_way (nat_le rec.header.seq r.view.number) (left_as r Known) (if rec.header.previous == r.view.number then tried shape r rec else kept_early r rec) (λ (t : PartTaken). VotesIn (taken_by t))
          (same_view (taken_by (left_as r Known)) refl)
          (way_with (rec.header.previous == r.view.number) (tried shape r rec) (kept_early r rec) (λ (t : PartTaken). VotesIn (taken_by t))
          (λ goes. tried_votes (given (is_it (is_for shape g r rec) its)) goes) (λ _. early_votes)))
        where
          is_it : (b : Bool) → not b ≡ false → b ≡ true
          is_it true e = refl
          is_it false e = absurd (true≢false e)

    part_headers : (rec : Record) → (is_for shape g r rec ≡ true → IsPart rec) → HeadersIn (by_part shape g rec m)
    unfolding by_part take_part
    part_headers rec given =
        let P : PartTaken → Type 0 = λ t. HeadersIn (part_taken shape g m rec t) in
        let next : Replica = with_view r (view_after shape r.view rec) in
        let more : Replica = record r { early = r.early ++ rec ∷ [] } in
        way_with (not (is_for shape g r rec)) (left_as r Foreign) (if nat_le rec.header.seq r.view.number then left_as r Known else (if rec.header.previous == r.view.number then tried shape r rec else kept_early r rec)) P
        (λ _ h among. inl among)
        (λ its. either_way (nat_le rec.header.seq r.view.number) (left_as r Known) (if rec.header.previous == r.view.number then tried shape r rec else kept_early r rec) P (λ h among. inl among)
        (either_way (rec.header.previous == r.view.number) (tried shape r rec) (kept_early r rec) P
        (either_way (is_accepted shape r.view rec) (left_as next Next) (left_as r (Differs rec.header.root (view_root shape (view_after shape r.view rec)))) P
        (λ h among. parts_were g IsPart m.leader.noted (rec ∷ (all_kept_in_turn shape next).parts) (given (is_it (is_for shape g r rec) its), kept_parts (length r.early) next early_parts) h among)
        (λ h among. inl among))
        (either_way (has_early r.early rec.header.previous) (left_as r Early) (if nat_lt (length r.early) 16 then left_as more Early else left_as r Full) P (λ h among. inl among)
        (either_way (nat_lt (length r.early) 16) (left_as more Early) (left_as r Full) P (λ h among. inl among) (λ h among. inl among)))))
      where
        is_it : (b : Bool) → not b ≡ false → b ≡ true
        is_it true e = refl
        is_it false e = absurd (true≢false e)

    vote_noted : (name : NodeName) (v : Prepared) → (by_vote shape name v m).memory.leader.noted ≡ m.leader.noted
    unfolding by_vote
    vote_noted name v =
        either_way ((v.session == m.replica.session) && (v.region == name.region)) (then_claims shape (quiet (with_leader m (record m.leader { votes = with_vote m.leader.votes name v.seq v.root })))) (quiet m)
        (λ (t : Turn). t.memory.leader.noted ≡ m.leader.noted) refl refl

    claim_noted : (name : NodeName) (c : Committed) → (by_claim shape name c m).memory.leader.noted ≡ m.leader.noted
    unfolding by_claim
    claim_noted name c =
        let P : Turn → Type 0 = λ t. t.memory.leader.noted ≡ m.leader.noted in
        let turn : Turn = then_claims shape (quiet (with_leader m (record m.leader { claims = with_claim m.leader.claims name c.front }))) in
        either_way (c.session == m.replica.session) (then_fold shape turn) (quiet m) P
        (either_way (folds shape turn.memory)
        (record { memory = after_fold turn.memory (fold_number shape turn.memory); outs = turn.outs; changes = turn.changes ++ FoldsTo (fold_number shape turn.memory) ∷ [] }) turn P refl refl) refl

    dump_noted : (d : Dump) → (by_dump g d m).memory.leader.noted ≡ m.leader.noted
    unfolding by_dump
    dump_noted d = either_way ((d.session == m.replica.session) && (d.region == g)) (dumped g m) (quiet m) (λ (t : Turn). t.memory.leader.noted ≡ m.leader.noted) refl refl

    ask_noted : (a : Ask) → (by_ask shape g a m).memory.leader.noted ≡ m.leader.noted
    unfolding by_ask
    ask_noted a = refl

    tick_noted : (by_tick shape m).memory.leader.noted ≡ m.leader.noted
    unfolding by_tick
    tick_noted = refl

    ask_view : (a : Ask) → (by_ask shape g a m).memory.replica.view ≡ r.view
    unfolding by_ask take_ask
    ask_view a =
        let P : AskTaken → Type 0 = λ t. t.replica.view ≡ r.view in
        either_way (not (is_asked_here shape g r a)) (record { replica = r; answer = None })
        (if is_due r.view a then record { replica = r; answer = Some (answer_to shape r.view a) } else record { replica = record r { asks = with_ask r.asks a }; answer = None }) P refl
        (either_way (is_due r.view a) (record { replica = r; answer = Some (answer_to shape r.view a) }) (record { replica = record r { asks = with_ask r.asks a }; answer = None }) P refl refl)

    -- ---- every rule

    module _ (node : NodeState) (there : node.memory ≡ Some m) where
      abbrev PlanVotes : Plan → Type 0
      PlanVotes plan = (after_changes shape node.held plan.changes).session ≡ node.held.session → VotesForNew shape g IsPart m plan.memory plan.outs

      by_rule : (rule : Memory → Turn) → VotesIn (rule m) → HeadersIn (rule m) → (k : Memory) → k ≡ m → PlanVotes (plan_of (rule k))
      by_rule rule votes headers k is =
          subst (λ (x : Memory). PlanVotes (plan_of (rule x))) (sym is) (λ stays. record { m = (rule m).memory; is = refl; voted = votes; headers = headers })

      by_same : (rule : Memory → Turn) → (rule m).memory.replica ≡ m.replica → (rule m).memory.leader.noted ≡ m.leader.noted → (k : Memory) → k ≡ m → PlanVotes (plan_of (rule k))
      by_same rule same noted k is = by_rule rule (same_view (rule m) (ap (λ (x : Replica). x.view.number) same)) (same_noted (rule m) noted) k is

      as_before : (plan : Plan) → plan.memory ≡ node.memory → PlanVotes plan
      as_before plan same stays = record { m = m; is = same ∙ there; voted = λ rec part over under. absurd (omega (arith, over, under)); headers = λ h among. inl among }

      switch_votes : (e : ℕ) → PlanVotes (by_switch shape g node e)
      unfolding by_switch after_changes changed
      switch_votes e =
          either_way (e == node.held.session) (says_switched node e) (if nat_lt node.held.session e then option_map_or (λ base. switched shape g node e) (base_held shape g e node.held) (ignored node) else ignored node) PlanVotes
          (as_before (says_switched node e) refl)
          (way_with (nat_lt node.held.session e) (option_map_or (λ base. switched shape g node e) (base_held shape g e node.held) (ignored node)) (ignored node) PlanVotes
          (λ rises. any_way PlanVotes (λ base. switched shape g node e) (ignored node) (base_held shape g e node.held)
          (λ base stays. let up : node.held.session < e = ltb-true node.held.session e rises in let same : e ≡ node.held.session = stays in absurd (omega (arith, up, same))) (as_before (ignored node) refl))
          (λ _. as_before (ignored node) refl))

      planned_votes : (input : Input) → OfInput (λ rec. is_for shape g r rec ≡ true → IsPart rec) (λ a. Unit {0}) input → PlanVotes (planned shape g node input)
      planned_votes input given =
          planned_with shape g node (λ k. k ≡ m) (subst (λ (o : Option Memory). OfSome (λ k. k ≡ m) o) (sym there) refl) (λ rec. is_for shape g r rec ≡ true → IsPart rec) (λ a. Unit {0}) PlanVotes
          (as_before (ignored node) refl)
          (λ rec k fits is. by_rule (by_part shape g rec) (part_votes rec fits) (part_headers rec fits) k is)
          (λ a k fits is. by_rule (by_ask shape g a) (same_view (by_ask shape g a m) (ap (λ (v : View). v.number) (ask_view a))) (same_noted (by_ask shape g a m) (ask_noted a)) k is)
          (λ d k is. by_same (by_dump g d) (dump_replica shape g node d m) (dump_noted d) k is)
          (λ name v k is. by_same (by_vote shape name v) (vote_replica shape g node name v m) (vote_noted name v) k is)
          (λ name c k is. by_same (by_claim shape name c) (claim_replica shape g node name c m) (claim_noted name c) k is)
          (λ k is. by_same (by_tick shape) (tick_replica shape g node m) tick_noted k is)
          (λ e. as_before (by_gather node e) (gather_memory shape g node e))
          (λ base. as_before (by_stage shape g node base) (stage_memory shape g node base))
          switch_votes input given

  -- The law: each part that the view reaches is voted for, and noted where the region leads it.
  pub handled_votes : (node : NodeState) (input : Input) (m : Memory) → node.memory ≡ Some m → IsInTurn IsPart IsView m.replica
      → ((rec : Record) → BringsPart input rec → is_for shape g m.replica rec ≡ true → IsPart rec) → (handled shape g node input).node.held.session ≡ node.held.session
      → VotesForNew shape g IsPart m (handled shape g node input).node.memory (handled shape g node input).outs
  handled_votes node input m there turn given stays =
      planned_votes m turn node there input (given_input shape IsPart IsView chain g (λ rec. is_for shape g m.replica rec ≡ true → IsPart rec) input given) stays
