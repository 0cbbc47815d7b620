-- What a node by its rules sends goes to the client or to nodes of the volume, whatever it is handed.
use Rattle.std.proofs.Common.{◌≡◌, ℕ, zero, suc, ◌<◌, Bool, true, false, ◌==◌, ◌&&◌, ◌||◌, not, nat_lt, nat_le, if◌then◌else◌, List, [], ◌∷◌, ◌++◌, map, length, bytes_eq, Option, None, Some, refl, arith}
use Rattle.std.specs.Prelude.{filter, flat_map, option_map, slice_index_or}
use Rattle.std.specs.Option.{option_map_or}
use Rattle.std.specs.List.{AllByRecursion, list_any, list_all}
use Rattle.std.proofs.lemmas.Bool.{ltb-true, not-false}
use Rattle.salus_types.specs.Volume.{Shape, regions, IsVolume}
use Rattle.salus_types.specs.declared.names.NodeName.{NodeName}
use Rattle.salus_types.specs.declared.names.Sender.{Sender}
use Rattle.salus_types.specs.declared.names.Sender.TheVariants as sender
use Rattle.salus_types.specs.declared.records.Header.{Header}
use Rattle.salus_types.specs.declared.records.Record.{Record}
use Rattle.salus_types.specs.declared.records.Base.{Base}
use Rattle.salus_types.specs.declared.records.Held.{Held}
use Rattle.salus_message.specs.declared.small.Prepared.{Prepared}
use Rattle.salus_message.specs.declared.small.Committed.{Committed}
use Rattle.salus_message.specs.declared.small.Ask.{Ask}
use Rattle.salus_message.specs.declared.small.Dump.{Dump}
use Rattle.salus_message.specs.declared.replies.Answer.{Answer}
use Rattle.salus_message.specs.declared.wire.Message.{Message}
use Rattle.salus_message.specs.declared.wire.Message.TheVariants as message
use Rattle.merkle_region.specs.Tree.{root_of}
use Rattle.schedule_text.specs.Limits.{IsOfVolume, IsPartyOfVolume}
use Rattle.holding_model.specs.Fitting.{ascends_from, record_fits, has_content, has_shape}
use Rattle.holding_model.specs.Changing.{SwitchesTo, changed}
use Rattle.volume_model.specs.Groups.{group_of, all_nodes}
use Rattle.salus_model.specs.declared.trace.Handed.{Handed}
use Rattle.salus_model.specs.Following.{Posted}
use Rattle.replica_rules.specs.Views.{View, view_of_base, view_after, view_root, is_accepted, touches_here, header_is_right, has_right_shape, led_by}
use Rattle.replica_rules.specs.Replicas.{Replica, with_view, PartAnswer, Foreign, Known, Early, Full, Differs, Next, PartTaken, left_as, is_for, has_early, kept_early, tried, take_part, KeptTaken, next_kept, without_kept, take_out, take_kept, Applied, no_more, after_part, kept_in_turn, all_kept_in_turn, take_ask, AskTaken, is_asked_here, is_due, answer_to, with_ask, due_answers}
use Rattle.replica_rules.specs.Voting.{with_vote, with_claim, committed}
use Rattle.replica_rules.specs.Leading.{all_certified}
use Rattle.replica_rules.specs.Nodes.{Memory, NodeState, base_held, goes_on, Tried, counted, all_tried, open_parts, memory_of, open_base, loaded_as}
use Rattle.replica_rules.specs.Rules.{Sending, Turn, Plan, quiet, plan_of, ignored, told_client, vote_for, votes_for, claim_of, claims_of, then_claims, stored, voted_again, part_answered, then_answers, part_taken, by_part, answer_out, ask_taken, by_ask, is_carried, by_gather, says_staged, staged, staged_again, staged_whole, staged_from, staged_anew, is_staged_here, by_stage, same_record, says_switched, switched, by_switch, dumped, by_dump, with_leader, by_vote, fold_number, folds, after_fold, then_fold, by_claim, is_at_start, by_tick, Input, planned, handled}
use Rattle.replica_rules.proofs.Dispatch.{planned_by}
use Rattle.run_rules.specs.Knowing.{KnownNode, speaking, silenced, fresh, after_handling, after_input, outs_of, input_of, after_handed, outs_to, reloaded, known_to}
use Rattle.list_lemmas.proofs.Each.{either_way, all_both, all_filter, all_map, all_each, all_then, OfSome, found_of_all, some_way, any_way, flat_of_all}
use Rattle.list_lemmas.proofs.Tests.{and_left, and_right, way_with}
use Rattle.law_ranged.proofs.Sized.{some_regions, group_within, nodes_within}

module _ (shape : Shape) (limits : IsVolume shape) where
  -- a part whose batch a region of the volume leads
  abbrev pub IsLed : Record → Type 0
  IsLed rec = led_by rec.header < regions shape

  right_led : (g : ℕ) (rec : Record) → has_right_shape shape g rec ≡ true → IsLed rec
  unfolding has_right_shape
  right_led g rec right =
      let h : Header = rec.header in
      let header : header_is_right shape g h ≡ true = and_left _ (has_content rec.writes rec.run) (and_left _ (record_fits shape rec) right) in
      let touches : touches_here shape g h.touched ≡ true = and_right (length h.fronts == regions shape) _ (and_left _ (nat_lt h.leader_before (regions shape)) (and_left _ (nat_lt h.previous h.seq) header)) in
      first h.touched (and_right (ascends_from 0 h.touched) _ (and_left _ (list_any (λ r. r == g) h.touched) touches))
    where
      first : (touched : List ℕ) → list_all (λ r. nat_lt r (regions shape)) touched ≡ true → slice_index_or touched 0 0 < regions shape
      first [] all = let some = some_regions shape limits in omega (arith, some)
      first (r ∷ touched) all = ltb-true r (regions shape) (and_left (nat_lt r (regions shape)) (list_all (λ x. nat_lt x (regions shape)) touched) all)

  abbrev AllLed : List Record → Type 0
  AllLed parts = AllByRecursion IsLed parts

  abbrev EarlyLed : Replica → Type 0
  EarlyLed r = AllLed r.early

  -- the parts that are held and count, and those that are kept early
  pub record MemoryLed (m : Memory) : Type 0 where
    pub parts : AllLed m.parts
    pub early : EarlyLed m.replica

  -- ---- messages

  abbrev pub AllSent : List Sending → Type 0
  AllSent outs = AllByRecursion (λ out. IsPartyOfVolume shape out.to) outs

  named_within : (names : List NodeName) (m : Message) → AllByRecursion (IsOfVolume shape) names → AllSent (map (λ name. record { to = sender.Node name; message = m }) names)
  named_within names m all = all_map (λ out. IsPartyOfVolume shape out.to) (λ name. record { to = sender.Node name; message = m }) names all

  votes_within : (rec : Record) → IsLed rec → AllSent (votes_for shape rec)
  votes_within rec led = named_within (group_of shape (led_by rec.header)) (vote_for rec) (group_within shape limits (led_by rec.header) led)

  all_votes : (parts : List Record) → AllLed parts → AllSent (flat_map (λ rec. votes_for shape rec) parts)
  all_votes parts all = flat_of_all (λ out. IsPartyOfVolume shape out.to) (λ rec. votes_for shape rec) parts (all_then IsLed (λ rec. AllSent (votes_for shape rec)) votes_within parts all)

  claims_within : (e front : ℕ) → AllSent (claims_of shape e front)
  claims_within e front = (tt, named_within (all_nodes shape) (claim_of e front) (nodes_within shape limits))

  -- ---- turns

  record TurnWithin (turn : Turn) : Type 0 where
    pub memory : MemoryLed turn.memory
    pub outs : AllSent turn.outs

  record PlanWithin (plan : Plan) : Type 0 where
    pub memory : OfSome MemoryLed plan.memory
    pub outs : AllSent plan.outs

  resting : (m : Memory) → MemoryLed m → TurnWithin (quiet m)
  resting m led = record { memory = led; outs = tt }

  then_claims_within : (turn : Turn) → TurnWithin turn → TurnWithin (then_claims shape turn)
  then_claims_within turn w = record {
    memory = record { parts = w.memory.parts; early = w.memory.early };
    outs = all_both (λ out. IsPartyOfVolume shape out.to) turn.outs (flat_map (λ h. claims_of shape turn.memory.replica.session h.seq) (all_certified shape turn.memory.leader)) w.outs
        (flat_of_all (λ out. IsPartyOfVolume shape out.to) (λ h. claims_of shape turn.memory.replica.session h.seq) (all_certified shape turn.memory.leader)
        (all_each (λ h. AllSent (claims_of shape turn.memory.replica.session h.seq)) (all_certified shape turn.memory.leader) (λ h. claims_within turn.memory.replica.session h.seq)));
  }

  then_answers_within : (turn : Turn) → TurnWithin turn → TurnWithin (then_answers shape turn)
  then_answers_within turn w = record {
    memory = record { parts = w.memory.parts; early = w.memory.early };
    outs = all_both (λ out. IsPartyOfVolume shape out.to) turn.outs (map (λ answer. record { to = sender.Client; message = message.Answer answer }) (due_answers shape turn.memory.replica)) w.outs
        (all_map (λ out. IsPartyOfVolume shape out.to) (λ answer. record { to = sender.Client; message = message.Answer answer }) (due_answers shape turn.memory.replica)
        (all_each (λ answer. Unit {0}) (due_answers shape turn.memory.replica) (λ answer. tt)));
  }

  -- ---- a part

  early_with : (r : Replica) (rec : Record) → EarlyLed r → IsLed rec → EarlyLed (kept_early r rec).replica
  early_with r rec all led =
      either_way (has_early r.early rec.header.previous) (left_as r Early) (if nat_lt (length r.early) 16 then left_as (record r { early = r.early ++ rec ∷ [] }) Early else left_as r Full) (λ t. EarlyLed t.replica) all
      (either_way (nat_lt (length r.early) 16) (left_as (record r { early = r.early ++ rec ∷ [] }) Early) (left_as r Full) (λ t. EarlyLed t.replica) (all_both IsLed r.early (rec ∷ []) all (led, tt)) all)

  tried_early : (r : Replica) (rec : Record) → EarlyLed r → EarlyLed (tried shape r rec).replica
  tried_early r rec all =
      either_way (is_accepted shape r.view rec) (left_as (with_view r (view_after shape r.view rec)) Next) (left_as r (Differs rec.header.root (view_root shape (view_after shape r.view rec)))) (λ t. EarlyLed t.replica) all all

  record KeptLed (taken : KeptTaken) : Type 0 where
    pub early : EarlyLed taken.replica
    pub part : OfSome IsLed taken.part

  record AppliedLed (applied : Applied) : Type 0 where
    pub early : EarlyLed applied.replica
    pub parts : AllLed applied.parts

  take_kept_led : (r : Replica) → EarlyLed r → KeptLed (take_kept shape r)
  unfolding take_kept
  take_kept_led r all =
      let less : EarlyLed (without_kept r) = all_filter IsLed (λ other. not (other.header.previous == r.view.number)) r.early all in
      some_way IsLed KeptLed (λ rec. take_out shape r rec) (record { replica = r; part = None }) (next_kept r) (found_of_all IsLed (λ rec. rec.header.previous == r.view.number) r.early all)
      (λ rec led. either_way (is_accepted shape r.view rec) (record { replica = with_view (without_kept r) (view_after shape r.view rec); part = Some rec }) (record { replica = without_kept r; part = None }) KeptLed
      (record { early = less; part = led }) (record { early = less; part = tt })) (record { early = all; part = tt })

  in_turn_led : (n : ℕ) (r : Replica) → EarlyLed r → AppliedLed (kept_in_turn shape n r)
  unfolding kept_in_turn
  in_turn_led zero r all = record { early = all; parts = tt }
  in_turn_led (suc n) r all =
      let taken : KeptLed (take_kept shape r) = take_kept_led r all in
      let more : AppliedLed (kept_in_turn shape n (take_kept shape r).replica) = in_turn_led n (take_kept shape r).replica taken.early in
      some_way IsLed AppliedLed (λ rec. after_part rec (kept_in_turn shape n (take_kept shape r).replica)) (no_more (take_kept shape r).replica) (take_kept shape r).part taken.part
      (λ rec led. record { early = more.early; parts = (led, more.parts) }) (record { early = taken.early; parts = tt })

  answered_within : (g : ℕ) (m : Memory) (rec : Record) (r : Replica) (answer : PartAnswer) → MemoryLed m → EarlyLed r → IsLed rec → TurnWithin (part_answered shape g m rec r answer)
  answered_within g m rec r Next led all one =
      let more : AppliedLed (all_kept_in_turn shape r) = in_turn_led (length r.early) r all in
      let parts : List Record = rec ∷ (all_kept_in_turn shape r).parts in
      record { memory = record { parts = all_both IsLed m.parts parts led.parts (one, more.parts); early = more.early }; outs = all_votes parts (one, more.parts) }
  answered_within g m rec r Known led all one =
      record { memory = led; outs = either_way (list_any (λ held. same_record held rec) m.parts) (votes_for shape rec) [] AllSent (votes_within rec one) tt }
  answered_within g m rec r Early led all one = record { memory = record { parts = led.parts; early = all }; outs = tt }
  answered_within g m rec r Foreign led all one = resting m led
  answered_within g m rec r Full led all one = resting m led
  answered_within g m rec r (Differs root got) led all one = resting m led

  taken_within : (g : ℕ) (m : Memory) (rec : Record) (taken : PartTaken) → TurnWithin (part_answered shape g m rec taken.replica taken.answer) → TurnWithin (part_taken shape g m rec taken)
  taken_within g m rec taken w = then_claims_within (then_answers shape (part_answered shape g m rec taken.replica taken.answer)) (then_answers_within (part_answered shape g m rec taken.replica taken.answer) w)

  by_part_within : (g : ℕ) (rec : Record) (m : Memory) → MemoryLed m → TurnWithin (by_part shape g rec m)
  unfolding by_part take_part
  by_part_within g rec m led =
      let r : Replica = m.replica in
      let own : PartTaken = if nat_le rec.header.seq r.view.number then left_as r Known else (if rec.header.previous == r.view.number then tried shape r rec else kept_early r rec) in
      let fits : PartTaken → Type 0 = λ t. TurnWithin (part_taken shape g m rec t) in
      let with_led : (t : PartTaken) → IsLed rec → EarlyLed t.replica → fits t = λ t one all. taken_within g m rec t (answered_within g m rec t.replica t.answer led all one) in
      way_with (not (is_for shape g r rec)) (left_as r Foreign) own fits (λ other. taken_within g m rec (left_as r Foreign) (resting m led))
      (λ mine.
      let pass : is_for shape g r rec ≡ true = not-false (is_for shape g r rec) mine in
      let one : IsLed rec = right_led g rec (and_right ((rec.header.session == r.session) && (rec.header.region == g)) (has_right_shape shape g rec) pass) in
      either_way (nat_le rec.header.seq r.view.number) (left_as r Known) (if rec.header.previous == r.view.number then tried shape r rec else kept_early r rec) fits (with_led (left_as r Known) one led.early)
      (either_way (rec.header.previous == r.view.number) (tried shape r rec) (kept_early r rec) fits (with_led (tried shape r rec) one (tried_early r rec led.early)) (with_led (kept_early r rec) one (early_with r rec led.early one))))

  -- ---- the other turns

  by_ask_within : (g : ℕ) (ask : Ask) (m : Memory) → MemoryLed m → TurnWithin (by_ask shape g ask m)
  unfolding by_ask take_ask
  by_ask_within g ask m led =
      let r : Replica = m.replica in
      let fits : AskTaken → Type 0 = λ t. TurnWithin (ask_taken m t) in
      either_way (not (is_asked_here shape g r ask)) (record { replica = r; answer = None })
      (if is_due r.view ask then record { replica = r; answer = Some (answer_to shape r.view ask) } else record { replica = record r { asks = with_ask r.asks ask }; answer = None }) fits
      (record { memory = record { parts = led.parts; early = led.early }; outs = tt })
      (either_way (is_due r.view ask) (record { replica = r; answer = Some (answer_to shape r.view ask) }) (record { replica = record r { asks = with_ask r.asks ask }; answer = None }) fits
      (record { memory = record { parts = led.parts; early = led.early }; outs = (tt, tt) })
      (record { memory = record { parts = led.parts; early = led.early }; outs = tt }))

  by_dump_within : (g : ℕ) (dump : Dump) (m : Memory) → MemoryLed m → TurnWithin (by_dump g dump m)
  unfolding by_dump
  by_dump_within g dump m led = either_way ((dump.session == m.replica.session) && (dump.region == g)) (dumped g m) (quiet m) TurnWithin (record { memory = led; outs = (tt, tt) }) (resting m led)

  by_vote_within : (name : NodeName) (vote : Prepared) (m : Memory) → MemoryLed m → TurnWithin (by_vote shape name vote m)
  unfolding by_vote
  by_vote_within name vote m led =
      let next : Memory = with_leader m (record m.leader { votes = with_vote m.leader.votes name vote.seq vote.root }) in
      either_way ((vote.session == m.replica.session) && (vote.region == name.region)) (then_claims shape (quiet next)) (quiet m) TurnWithin
      (then_claims_within (quiet next) (record { memory = record { parts = led.parts; early = led.early }; outs = tt })) (resting m led)

  then_fold_within : (turn : Turn) → TurnWithin turn → TurnWithin (then_fold shape turn)
  then_fold_within turn w =
      either_way (folds shape turn.memory)
      (record { memory = after_fold turn.memory (fold_number shape turn.memory); outs = turn.outs; changes = _ }) turn TurnWithin
      (record { memory = record { parts = all_filter IsLed (λ rec. nat_lt (fold_number shape turn.memory) rec.header.seq) turn.memory.parts w.memory.parts; early = w.memory.early }; outs = w.outs }) w

  by_claim_within : (name : NodeName) (claim : Committed) (m : Memory) → MemoryLed m → TurnWithin (by_claim shape name claim m)
  unfolding by_claim
  by_claim_within name claim m led =
      let next : Memory = with_leader m (record m.leader { claims = with_claim m.leader.claims name claim.front }) in
      either_way (claim.session == m.replica.session) (then_fold shape (then_claims shape (quiet next))) (quiet m) TurnWithin
      (then_fold_within (then_claims shape (quiet next)) (then_claims_within (quiet next) (record { memory = record { parts = led.parts; early = led.early }; outs = tt }))) (resting m led)

  by_tick_within : (m : Memory) → MemoryLed m → TurnWithin (by_tick shape m)
  unfolding by_tick
  by_tick_within m led =
      let parts : List Record = filter (λ rec. nat_lt (committed shape m.leader.claims) rec.header.seq) m.parts in
      let last : List Sending = if is_at_start m.leader.front m.begun then [] else claims_of shape m.replica.session m.leader.front in
      record {
        memory = led;
        outs = all_both (λ out. IsPartyOfVolume shape out.to) (flat_map (λ rec. votes_for shape rec) parts) last
            (all_votes parts (all_filter IsLed (λ rec. nat_lt (committed shape m.leader.claims) rec.header.seq) m.parts led.parts))
            (either_way (is_at_start m.leader.front m.begun) [] (claims_of shape m.replica.session m.leader.front) AllSent tt (claims_within m.replica.session m.leader.front));
      }

  -- ---- a load

  tried_led : (g : ℕ) (view : View) (parts : List Record) → AllLed (all_tried shape g view parts).parts
  unfolding all_tried
  tried_led g view [] = tt
  tried_led g view (rec ∷ parts) =
      way_with (goes_on shape g view rec) (counted rec (all_tried shape g (view_after shape view rec) parts)) (all_tried shape g view parts) (λ (t : Tried). AllLed t.parts)
      (λ pass.
      let shaped : has_right_shape shape g rec ≡ true = and_right (rec.header.region == g) _ (and_left _ (rec.header.previous == view.number) (and_left _ (is_accepted shape view rec) pass)) in
      (right_led g rec shaped, tried_led g (view_after shape view rec) parts)) (λ fail. tried_led g view parts)

  loaded_led : (g : ℕ) (held : Held) → OfSome MemoryLed (loaded_as shape g held).memory
  unfolding loaded_as
  loaded_led g held = mapped (open_base shape g held) where
    mapped : (o : Option Base) → OfSome MemoryLed (option_map (λ base. memory_of shape g held base) o)
    mapped None = tt
    mapped (Some base) = record { parts = tried_led g (view_of_base base) (open_parts held); early = tt }

  -- ---- a handling

  module _ (g : ℕ) (node : NodeState) (led : OfSome MemoryLed node.memory) where
    rests : PlanWithin (ignored node)
    rests = record { memory = led; outs = tt }

    of_turn : (turn : Turn) → TurnWithin turn → PlanWithin (plan_of turn)
    of_turn turn w = record { memory = w.memory; outs = w.outs }

    by_gather_within : (e : ℕ) → PlanWithin (by_gather node e)
    unfolding by_gather
    by_gather_within e = either_way (is_carried node.held) (told_client node (message.Gathered (record { session = e; held = node.held }))) (ignored node) PlanWithin (record { memory = led; outs = (tt, tt) }) rests

    staged_anew_within : (base : Base) → PlanWithin (staged_anew shape node base)
    staged_anew_within base =
        either_way (length base.blocks == 0) (option_map_or (λ m. staged_from shape node base.rec m) node.memory (ignored node)) (staged_whole shape node base) PlanWithin
        (any_way PlanWithin (λ m. staged_from shape node base.rec m) (ignored node) node.memory
        (λ m. either_way (bytes_eq (view_root shape m.replica.view) base.rec.header.root) (staged node base.rec m.replica.view.blocks) (ignored node) PlanWithin (record { memory = led; outs = (tt, tt) }) rests) rests)
        (either_way (has_shape shape base.blocks && bytes_eq (root_of shape.height base.blocks) base.rec.header.root) (staged node base.rec base.blocks) (ignored node) PlanWithin (record { memory = led; outs = (tt, tt) }) rests)

    by_stage_within : (base : Base) → PlanWithin (by_stage shape g node base)
    unfolding by_stage
    by_stage_within base =
        either_way (is_staged_here g node base.rec.header) (option_map_or (λ held. staged_again node base.rec held) (base_held shape g base.rec.header.session node.held) (staged_anew shape node base)) (ignored node) PlanWithin
        (any_way PlanWithin (λ held. staged_again node base.rec held) (staged_anew shape node base) (base_held shape g base.rec.header.session node.held)
        (λ held. either_way (same_record held.rec base.rec) (says_staged node base.rec.header.session) (ignored node) PlanWithin (record { memory = led; outs = (tt, tt) }) rests) (staged_anew_within base)) rests

    by_switch_within : (e : ℕ) → PlanWithin (by_switch shape g node e)
    unfolding by_switch
    by_switch_within e =
        either_way (e == node.held.session) (says_switched node e) (if nat_lt node.held.session e then option_map_or (λ base. switched shape g node e) (base_held shape g e node.held) (ignored node) else ignored node) PlanWithin
        (record { memory = led; outs = (tt, tt) })
        (either_way (nat_lt node.held.session e) (option_map_or (λ base. switched shape g node e) (base_held shape g e node.held) (ignored node)) (ignored node) PlanWithin
        (any_way PlanWithin (λ base. switched shape g node e) (ignored node) (base_held shape g e node.held)
        (λ base. record { memory = loaded_led g (changed shape node.held (SwitchesTo e)); outs = (tt, tt) }) rests) rests)

    planned_within : (input : Input) → PlanWithin (planned shape g node input)
    planned_within input =
        planned_by shape g node MemoryLed led PlanWithin rests (λ rec m k. of_turn (by_part shape g rec m) (by_part_within g rec m k)) (λ ask m k. of_turn (by_ask shape g ask m) (by_ask_within g ask m k))
        (λ dump m k. of_turn (by_dump g dump m) (by_dump_within g dump m k)) (λ name vote m k. of_turn (by_vote shape name vote m) (by_vote_within name vote m k))
        (λ name claim m k. of_turn (by_claim shape name claim m) (by_claim_within name claim m k)) (λ m k. of_turn (by_tick shape m) (by_tick_within m k)) by_gather_within by_stage_within by_switch_within input

  -- ---- a node of the run

  abbrev pub KnownLed : KnownNode → Type 0
  KnownLed known = OfSome MemoryLed known.state.memory

  pub fresh_led : (g : ℕ) (held : Held) → KnownLed (fresh shape g held)
  fresh_led g held = loaded_led g held

  input_led : (g : ℕ) (known : KnownNode) (input : Input) (failed : Bool) → KnownLed known → KnownLed (after_input shape g known input failed)
  input_led g known input failed led =
      either_way known.silent known (after_handling shape known.state (handled shape g known.state input) failed) KnownLed led
      (either_way failed (silenced shape known.state (handled shape g known.state input).changes) (speaking (handled shape g known.state input).node) KnownLed led (planned_within g known.state led input).memory)

  pub known_led : (g : ℕ) (posts : List Posted) (known : KnownNode) (what : Handed) (failed : Bool) (loaded : Option Held) → KnownLed known → KnownLed (known_to shape g posts known what failed loaded)
  known_led g posts known what failed loaded led = reload loaded where
    handed_led : KnownLed (after_handed shape g posts known what failed)
    handed_led = any_way KnownLed (λ input. after_input shape g known input failed) known (input_of posts what) (λ input. input_led g known input failed led) led

    reload : (o : Option Held) → KnownLed (reloaded shape g (after_handed shape g posts known what failed) o)
    reload None = handed_led
    reload (Some held) = fresh_led g held

  pub outs_within : (g : ℕ) (posts : List Posted) (known : KnownNode) (what : Handed) (failed : Bool) → KnownLed known → AllSent (outs_to shape g posts known what failed)
  outs_within g posts known what failed led =
      any_way AllSent (λ input. outs_of shape g known input failed) [] (input_of posts what)
      (λ input. either_way (known.silent || failed) [] (handled shape g known.state input).outs AllSent tt (planned_within g known.state led input).outs) tt
