-- The parts that a node has in memory are among those that it holds, and each vote that it sends is for one of them.
use Rattle.std.proofs.Common.{◌≡◌, ◌∙◌, inl, inr, ℕ, ◌<◌, ◌≤◌, ◌==◌, ◌&&◌, not, nat_le, nat_lt, true, false, if◌then◌else◌, List, [], ◌∷◌, ◌++◌, length, map, flat_map, Option, None, Some, bytes_eq, refl, sym, subst, arith, append_assoc}
use Rattle.std.specs.Prelude.{filter, option_map}
use Rattle.std.specs.Option.{option_map_or}
use Rattle.std.specs.List.{AllByRecursion, list_any}
use Rattle.std.proofs.lemmas.List.{append-nil}
use Rattle.std.proofs.lemmas.Bool.{eqb-true, ltb-true, leb-true}
use Rattle.std.proofs.lemmas.Slice.Eq.{bytes_eq-Decides}
use Rattle.salus_types.specs.Volume.{Shape}
use Rattle.salus_types.specs.declared.names.NodeName.{NodeName}
use Rattle.salus_types.specs.declared.names.Sender.TheVariants as sender
use Rattle.salus_types.specs.declared.records.Header.{Header}
use Rattle.salus_types.specs.declared.records.Record.{Record}
use Rattle.salus_types.specs.declared.records.Base.{Base}
use Rattle.salus_types.specs.declared.records.Held.{Held}
use Rattle.salus_message.specs.declared.small.Prepared.{Prepared}
use Rattle.salus_message.specs.declared.small.Committed.{Committed}
use Rattle.salus_message.specs.declared.small.Ask.{Ask}
use Rattle.salus_message.specs.declared.small.Dump.{Dump}
use Rattle.salus_message.specs.declared.replies.Answer.{Answer}
use Rattle.salus_message.specs.declared.wire.Message.{Message}
use Rattle.salus_message.specs.declared.wire.Message.TheVariants as message
use Rattle.merkle_region.specs.Tree.{root_of, IsAmong}
use Rattle.merkle_region.proofs.Membership.{among_left, among_right}
use Rattle.volume_model.specs.Groups.{group_of, all_nodes}
use Rattle.holding_model.specs.Fitting.{has_shape}
use Rattle.replica_rules.specs.Views.{View, view_of_base, view_after, view_root, led_by}
use Rattle.replica_rules.specs.Replicas.{Replica, PartAnswer, Foreign, Known, Early, Full, Differs, Next, PartTaken, take_part, Applied, after_part, all_kept_in_turn, take_ask, due_answers}
use Rattle.replica_rules.specs.Voting.{with_vote, with_claim, committed}
use Rattle.replica_rules.specs.Leading.{all_certified}
use Rattle.holding_model.specs.Changing.{AddsPart, SwitchesTo, FoldsTo, is_folded, folded, changed, after_changes}
use Rattle.replica_rules.specs.Nodes.{Memory, NodeState, base_held, goes_on, Tried, counted, all_tried, open_parts, memory_of, open_base, loaded_as}
use Rattle.replica_rules.specs.Rules.{Sending, Turn, Plan, quiet, plan_of, ignored, told_client, vote_for, votes_for, claim_of, claims_of, same_record, same_header, then_claims, stored, voted_again, part_answered, then_answers, by_part, answer_out, by_ask, is_carried, by_gather, says_staged, staged, staged_again, staged_whole, staged_from, staged_anew, is_staged_here, by_stage, says_switched, switched, by_switch, dumped, by_dump, with_leader, by_vote, fold_number, folds, after_fold, then_fold, by_claim, is_at_start, by_tick, Input, planned}
use Rattle.replica_rules.proofs.Dispatch.{planned_by}
use Rattle.list_lemmas.proofs.Each.{either_way, all_both, all_filter, all_map, all_then, all_each, all_flat, OfSome, any_way, all_pass, all_zip, flat_of_all}
use Rattle.list_lemmas.proofs.Members.{among_all, all_among, among_filter-in, any_among, among_filter}
use Rattle.list_lemmas.proofs.Tests.{by_bool, way_with, not_and, and_left, and_right}

abbrev pub AllHeld : Held → List Record → Type 0
AllHeld held parts = AllByRecursion (λ rec. IsAmong rec held.parts) parts

-- a vote is for one of the parts that are held
abbrev pub IsHeldVote : Held → Message → Type 0
IsHeldVote held (message.Prepared v) =
    (rec : Record) × IsAmong rec held.parts × (rec.header.session ≡ v.session) × (rec.header.seq ≡ v.seq) × (rec.header.region ≡ v.region) × (rec.header.root ≡ v.root)
IsHeldVote held other = Unit {0}

abbrev pub AllVotes : Held → List Sending → Type 0
AllVotes held outs = AllByRecursion (λ out. IsHeldVote held out.message) outs

pub record VotesRight (shape : Shape) (held : Held) (turn : Turn) : Type 0 where
  pub agrees : AllHeld (after_changes shape held turn.changes) turn.memory.parts
  pub stand : AllVotes (after_changes shape held turn.changes) turn.outs

pub record PlansRight (shape : Shape) (held : Held) (plan : Plan) : Type 0 where
  pub agrees : OfSome (λ m. AllHeld (after_changes shape held plan.changes) m.parts) plan.memory
  pub stand : AllVotes (after_changes shape held plan.changes) plan.outs

module _ (shape : Shape) where
  after_added : (held : Held) (parts : List Record) → (after_changes shape held (map (λ rec. AddsPart rec) parts)).parts ≡ held.parts ++ parts
  unfolding after_changes changed
  after_added held [] = sym (append-nil held.parts)
  after_added held (rec ∷ parts) = after_added (changed shape held (AddsPart rec)) parts ∙ append_assoc held.parts (rec ∷ []) parts

  -- ---- votes

  votes_stand : (held : Held) (rec : Record) → IsHeldVote held (vote_for rec) → AllVotes held (votes_for shape rec)
  votes_stand held rec is =
      all_map (λ out. IsHeldVote held out.message) (λ name. record { to = sender.Node name; message = vote_for rec }) (group_of shape (led_by rec.header))
      (all_each (λ name. IsHeldVote held (vote_for rec)) (group_of shape (led_by rec.header)) (λ name. is))

  all_stand : (held : Held) (parts : List Record) → AllHeld held parts → AllVotes held (flat_map (λ rec. votes_for shape rec) parts)
  all_stand held parts all =
      flat_of_all (λ out. IsHeldVote held out.message) (λ rec. votes_for shape rec) parts
      (all_then (λ rec. IsAmong rec held.parts) (λ rec. AllVotes held (votes_for shape rec)) (λ rec among. votes_stand held rec (rec, among, refl, refl, refl, refl)) parts all)

  same_vote : (held : Held) (other rec : Record) → IsAmong other held.parts → same_record other rec ≡ true → IsHeldVote held (vote_for rec)
  unfolding same_record
  same_vote held other rec among same =
      let a : Header = other.header in
      let b : Header = rec.header in
      let whole : same_header a b ≡ true = and_left (same_header a b) _ (and_left _ _ (and_left _ _ same)) in
      let h8 : _ ≡ true = and_left _ (bytes_eq a.top b.top) whole in
      let h3 : _ ≡ true = and_left _ (a.previous == b.previous) (and_left _ (a.leader_before == b.leader_before) (and_left _ (bytes_eq a.fronts b.fronts) (and_left _ (bytes_eq a.touched b.touched) (and_left _ (bytes_eq a.root b.root) h8)))) in
      let h2 : _ ≡ true = and_left _ (a.region == b.region) h3 in
      let h1 : _ ≡ true = and_left _ (a.seq == b.seq) h2 in (
        other,
        among,
        eqb-true a.session b.session (and_right _ (a.session == b.session) h1),
        eqb-true a.seq b.seq (and_right _ (a.seq == b.seq) h2),
        eqb-true a.region b.region (and_right _ (a.region == b.region) h3),
        (bytes_eq-Decides a.root b.root).0 (and_right _ (bytes_eq a.root b.root) h8),
      )

  -- ---- the rules

  claims_stand : (now : Held) (turn : Turn) → AllVotes now turn.outs → AllVotes now (then_claims shape turn).outs
  claims_stand now turn stand =
      let e : ℕ = turn.memory.replica.session in
      all_both (λ out. IsHeldVote now out.message) turn.outs (flat_map (λ h. claims_of shape e h.seq) (all_certified shape turn.memory.leader)) stand
      (all_flat (λ out. IsHeldVote now out.message) (λ h. claims_of shape e h.seq) (all_certified shape turn.memory.leader)
      (λ h. (tt, all_map (λ out. IsHeldVote now out.message) (λ name. record { to = sender.Node name; message = claim_of e h.seq }) (all_nodes shape) (all_each (λ name. Unit {0}) (all_nodes shape) (λ name. tt)))))

  claims_add : (held : Held) (turn : Turn) → VotesRight shape held turn → VotesRight shape held (then_claims shape turn)
  claims_add held turn right = record { agrees = right.agrees; stand = claims_stand (after_changes shape held turn.changes) turn right.stand }

  answers_add : (held : Held) (turn : Turn) → VotesRight shape held turn → VotesRight shape held (then_answers shape turn)
  answers_add held turn right =
      let now : Held = after_changes shape held turn.changes in
      record {
        agrees = right.agrees;
        stand = all_both (λ out. IsHeldVote now out.message) turn.outs (map (λ answer. record { to = sender.Client; message = message.Answer answer }) (due_answers shape turn.memory.replica)) right.stand
            (all_map (λ out. IsHeldVote now out.message) (λ answer. record { to = sender.Client; message = message.Answer answer }) (due_answers shape turn.memory.replica)
            (all_each (λ answer. Unit {0}) (due_answers shape turn.memory.replica) (λ answer. tt)));
      }

  -- nothing of what is held changes, and no vote is sent
  calm : (held : Held) (m : Memory) → AllHeld held m.parts → VotesRight shape held (quiet m)
  unfolding after_changes
  calm held m all = record { agrees = all; stand = tt }

  stored_right : (g : ℕ) (held : Held) (m : Memory) (applied : Applied) → AllHeld held m.parts → VotesRight shape held (stored shape g m applied)
  stored_right g held m applied all =
      let now : Held = after_changes shape held (map (λ rec. AddsPart rec) applied.parts) in
      let same : held.parts ++ applied.parts ≡ now.parts = sym (after_added held applied.parts) in
      let new : AllHeld now applied.parts = subst (λ (l : List Record). AllByRecursion (λ rec. IsAmong rec l) applied.parts) same (all_among (λ rec. IsAmong rec (held.parts ++ applied.parts)) applied.parts (λ rec among. among_right rec held.parts applied.parts among)) in
      let old : AllHeld now m.parts = subst (λ (l : List Record). AllByRecursion (λ rec. IsAmong rec l) m.parts) same (all_then (λ rec. IsAmong rec held.parts) (λ rec. IsAmong rec (held.parts ++ applied.parts)) (λ rec among. among_left rec held.parts applied.parts among) m.parts all) in
      record { agrees = all_both (λ rec. IsAmong rec now.parts) m.parts applied.parts old new; stand = all_stand now applied.parts new }

  again_right : (held : Held) (m : Memory) (rec : Record) → AllHeld held m.parts → VotesRight shape held (voted_again shape m rec)
  unfolding after_changes
  again_right held m rec all = record {
    agrees = all;
    stand = way_with (list_any (λ other. same_record other rec) m.parts) (votes_for shape rec) [] (AllVotes held)
        (λ some. let found = any_among (λ other. same_record other rec) m.parts some in
        votes_stand held rec (same_vote held found.0 rec (among_all (λ other. IsAmong other held.parts) m.parts found.0 found.1 all) found.2))
        (λ none. tt);
  }

  answered_right : (g : ℕ) (held : Held) (m : Memory) (rec : Record) (r : Replica) (answer : PartAnswer) → AllHeld held m.parts → VotesRight shape held (part_answered shape g m rec r answer)
  answered_right g held m rec r Next all = stored_right g held m (after_part rec (all_kept_in_turn shape r)) all
  answered_right g held m rec r Known all = again_right held m rec all
  answered_right g held m rec r Early all = calm held (record m { replica = r }) all
  answered_right g held m rec r Foreign all = calm held m all
  answered_right g held m rec r Full all = calm held m all
  answered_right g held m rec r (Differs root got) all = calm held m all

  part_right : (g : ℕ) (held : Held) (rec : Record) (m : Memory) → AllHeld held m.parts → VotesRight shape held (by_part shape g rec m)
  unfolding by_part
  part_right g held rec m all =
      let taken : PartTaken = take_part shape g m.replica rec in
      let turn : Turn = part_answered shape g m rec taken.replica taken.answer in
      claims_add held (then_answers shape turn) (answers_add held turn (answered_right g held m rec taken.replica taken.answer all))

  ask_right : (g : ℕ) (held : Held) (ask : Ask) (m : Memory) → AllHeld held m.parts → VotesRight shape held (by_ask shape g ask m)
  unfolding by_ask after_changes
  ask_right g held ask m all = record { agrees = all; stand = one (take_ask shape g m.replica ask).answer } where
    one : (o : Option Answer) → AllVotes held (answer_out o)
    one None = tt
    one (Some answer) = (tt, tt)

  dump_right : (g : ℕ) (held : Held) (dump : Dump) (m : Memory) → AllHeld held m.parts → VotesRight shape held (by_dump g dump m)
  unfolding by_dump after_changes
  dump_right g held dump m all = either_way ((dump.session == m.replica.session) && (dump.region == g)) (dumped g m) (quiet m) (VotesRight shape held) (record { agrees = all; stand = (tt, tt) }) (calm held m all)

  vote_right : (held : Held) (name : NodeName) (vote : Prepared) (m : Memory) → AllHeld held m.parts → VotesRight shape held (by_vote shape name vote m)
  unfolding by_vote
  vote_right held name vote m all =
      let next : Memory = with_leader m (record m.leader { votes = with_vote m.leader.votes name vote.seq vote.root }) in
      either_way ((vote.session == m.replica.session) && (vote.region == name.region)) (then_claims shape (quiet next)) (quiet m) (VotesRight shape held) (claims_add held (quiet next) (calm held next all)) (calm held m all)

  -- a part above the fold is left
  left_held : (held : Held) (n : ℕ) (parts gone : List Record) → AllHeld held parts → AllHeld (folded shape held n gone) (filter (λ rec. nat_lt n rec.header.seq) parts)
  left_held held n parts [] all = all_filter (λ rec. IsAmong rec held.parts) (λ rec. nat_lt n rec.header.seq) parts all
  left_held held n parts (first ∷ gone) all =
      let above : List Record = filter (λ rec. nat_lt n rec.header.seq) parts in
      let held_still : AllHeld held above = all_filter (λ rec. IsAmong rec held.parts) (λ rec. nat_lt n rec.header.seq) parts all in
      all_then (λ rec. IsAmong rec held.parts × (nat_lt n rec.header.seq ≡ true)) (λ rec. IsAmong rec (filter (λ r. not (is_folded held n r)) held.parts))
      (λ rec both. among_filter-in (λ r. not (is_folded held n r)) held.parts rec both.0 (not_and (rec.header.session == held.session) (nat_le rec.header.seq n)
      (by_bool (nat_le rec.header.seq n) (nat_le rec.header.seq n ≡ false)
      (λ low. let under : rec.header.seq ≤ n = leb-true rec.header.seq n low in let over : n < rec.header.seq = ltb-true n rec.header.seq both.1 in absurd (omega arith)) (λ high. high))))
      above (all_zip (λ rec. IsAmong rec held.parts) (λ rec. nat_lt n rec.header.seq ≡ true) above held_still (all_pass (λ rec. nat_lt n rec.header.seq) parts))

  claim_right : (held : Held) (name : NodeName) (claim : Committed) (m : Memory) → AllHeld held m.parts → VotesRight shape held (by_claim shape name claim m)
  unfolding by_claim after_changes changed
  claim_right held name claim m all =
      let next : Memory = with_leader m (record m.leader { claims = with_claim m.leader.claims name claim.front }) in
      let turn : Turn = then_claims shape (quiet next) in
      let n : ℕ = fold_number shape turn.memory in
      let gone : List Record = filter (λ rec. is_folded held n rec) held.parts in
      either_way (claim.session == m.replica.session) (then_fold shape turn) (quiet m) (VotesRight shape held)
      (either_way (folds shape turn.memory) (record { memory = after_fold turn.memory n; outs = turn.outs; changes = turn.changes ++ FoldsTo n ∷ [] }) turn (VotesRight shape held)
      (record { agrees = left_held held n m.parts gone all; stand = claims_stand (folded shape held n gone) (quiet next) tt }) (claims_add held (quiet next) (calm held next all)))
      (calm held m all)

  tick_right : (held : Held) (m : Memory) → AllHeld held m.parts → VotesRight shape held (by_tick shape m)
  unfolding by_tick after_changes
  tick_right held m all =
      let open_votes : List Record = filter (λ rec. nat_lt (committed shape m.leader.claims) rec.header.seq) m.parts in
      let last : List Sending = if is_at_start m.leader.front m.begun then [] else claims_of shape m.replica.session m.leader.front in
      record {
        agrees = all;
        stand = all_both (λ out. IsHeldVote held out.message) (flat_map (λ rec. votes_for shape rec) open_votes) last
            (all_stand held open_votes (all_filter (λ rec. IsAmong rec held.parts) (λ rec. nat_lt (committed shape m.leader.claims) rec.header.seq) m.parts all))
            (either_way (is_at_start m.leader.front m.begun) [] (claims_of shape m.replica.session m.leader.front) (AllVotes held) tt
            (tt, all_map (λ out. IsHeldVote held out.message) (λ name. record { to = sender.Node name; message = claim_of m.replica.session m.leader.front }) (all_nodes shape) (all_each (λ name. Unit {0}) (all_nodes shape) (λ name. tt))));
      }

  -- ---- a load

  tried_among : (g : ℕ) (view : View) (parts : List Record) → AllByRecursion (λ rec. IsAmong rec parts) (all_tried shape g view parts).parts
  unfolding all_tried
  tried_among g view [] = tt
  tried_among g view (rec ∷ parts) =
      let later : (t : Tried) → AllByRecursion (λ r. IsAmong r parts) t.parts → AllByRecursion (λ r. IsAmong r (rec ∷ parts)) t.parts = λ t all. all_then (λ r. IsAmong r parts) (λ r. IsAmong r (rec ∷ parts)) (λ r among. inr among) t.parts all in
      either_way (goes_on shape g view rec) (counted rec (all_tried shape g (view_after shape view rec) parts)) (all_tried shape g view parts) (λ t. AllByRecursion (λ r. IsAmong r (rec ∷ parts)) t.parts)
      (inl refl, later (all_tried shape g (view_after shape view rec) parts) (tried_among g (view_after shape view rec) parts)) (later (all_tried shape g view parts) (tried_among g view parts))

  pub fresh_agrees : (g : ℕ) (held : Held) → OfSome (λ m. AllHeld held m.parts) (loaded_as shape g held).memory
  unfolding loaded_as
  fresh_agrees g held = mapped (open_base shape g held) where
    mapped : (o : Option Base) → OfSome (λ m. AllHeld held m.parts) (option_map (λ base. memory_of shape g held base) o)
    mapped None = tt
    mapped (Some base) =
        all_then (λ rec. IsAmong rec (open_parts held)) (λ rec. IsAmong rec held.parts) (λ rec among. (among_filter (λ r. r.header.session == held.session) rec held.parts among).0)
        (all_tried shape g (view_of_base base) (open_parts held)).parts (tried_among g (view_of_base base) (open_parts held))

  -- ---- the rules that need no open session

  module _ (g : ℕ) (node : NodeState) (there : OfSome (λ m. AllHeld node.held m.parts) node.memory) where
    abbrev Right : Plan → Type 0
    Right plan = PlansRight shape node.held plan

    nothing_right : Right (ignored node)
    unfolding after_changes
    nothing_right = record { agrees = there; stand = tt }

    turn_right : (turn : Turn) → VotesRight shape node.held turn → Right (plan_of turn)
    turn_right turn right = record { agrees = right.agrees; stand = right.stand }

    gather_right : (e : ℕ) → Right (by_gather node e)
    unfolding by_gather after_changes
    gather_right e = either_way (is_carried node.held) (told_client node (message.Gathered (record { session = e; held = node.held }))) (ignored node) Right (record { agrees = there; stand = (tt, tt) }) nothing_right

    staged_right : (rec : Record) (blocks : List (List ℕ)) → Right (staged node rec blocks)
    unfolding after_changes changed
    staged_right rec blocks = record { agrees = there; stand = (tt, tt) }

    says_staged_right : (e : ℕ) → Right (says_staged node e)
    unfolding after_changes
    says_staged_right e = record { agrees = there; stand = (tt, tt) }

    anew_right : (base : Base) → Right (staged_anew shape node base)
    anew_right base =
        either_way (length base.blocks == 0) (option_map_or (λ m. staged_from shape node base.rec m) node.memory (ignored node)) (staged_whole shape node base) Right
        (any_way Right (λ m. staged_from shape node base.rec m) (ignored node) node.memory
        (λ m. either_way (bytes_eq (view_root shape m.replica.view) base.rec.header.root) (staged node base.rec m.replica.view.blocks) (ignored node) Right (staged_right base.rec m.replica.view.blocks) nothing_right) nothing_right)
        (either_way (has_shape shape base.blocks && bytes_eq (root_of shape.height base.blocks) base.rec.header.root) (staged node base.rec base.blocks) (ignored node) Right (staged_right base.rec base.blocks) nothing_right)

    stage_right : (base : Base) → Right (by_stage shape g node base)
    unfolding by_stage
    stage_right base =
        let e : ℕ = base.rec.header.session in
        either_way (is_staged_here g node base.rec.header) (option_map_or (λ old. staged_again node base.rec old) (base_held shape g e node.held) (staged_anew shape node base)) (ignored node) Right
        (any_way Right (λ old. staged_again node base.rec old) (staged_anew shape node base) (base_held shape g e node.held)
        (λ old. either_way (same_record old.rec base.rec) (says_staged node e) (ignored node) Right (says_staged_right e) nothing_right) (anew_right base)) nothing_right

    switched_right : (e : ℕ) → Right (switched shape g node e)
    unfolding after_changes
    switched_right e = record { agrees = fresh_agrees g (changed shape node.held (SwitchesTo e)); stand = (tt, tt) }

    says_switched_right : (e : ℕ) → Right (says_switched node e)
    unfolding after_changes
    says_switched_right e = record { agrees = there; stand = (tt, tt) }

    switch_right : (e : ℕ) → Right (by_switch shape g node e)
    unfolding by_switch
    switch_right e =
        either_way (e == node.held.session) (says_switched node e) (if nat_lt node.held.session e then option_map_or (λ base. switched shape g node e) (base_held shape g e node.held) (ignored node) else ignored node) Right (says_switched_right e)
        (either_way (nat_lt node.held.session e) (option_map_or (λ base. switched shape g node e) (base_held shape g e node.held) (ignored node)) (ignored node) Right
        (any_way Right (λ base. switched shape g node e) (ignored node) (base_held shape g e node.held) (λ base. switched_right e) nothing_right) nothing_right)

    -- Each vote that a handling sends is for a part that is held after it, and the parts in memory are held.
    pub planned_right : (input : Input) → Right (planned shape g node input)
    planned_right input =
        planned_by shape g node (λ m. AllHeld node.held m.parts) there Right nothing_right
        (λ rec m all. turn_right (by_part shape g rec m) (part_right g node.held rec m all)) (λ ask m all. turn_right (by_ask shape g ask m) (ask_right g node.held ask m all))
        (λ dump m all. turn_right (by_dump g dump m) (dump_right g node.held dump m all)) (λ name vote m all. turn_right (by_vote shape name vote m) (vote_right node.held name vote m all))
        (λ name claim m all. turn_right (by_claim shape name claim m) (claim_right node.held name claim m all)) (λ m all. turn_right (by_tick shape m) (tick_right node.held m all))
        gather_right stage_right switch_right input
