-- A part that is handed over with room has come, and what has come stays, while the node stays in its session.
use Rattle.std.proofs.Common.{◌≡◌, ◌∙◌, inl, inr, ⊎_elim, ℕ, ◌<◌, ◌≤◌, ◌==◌, not, nat_lt, nat_le, true, false, if◌then◌else◌, List, [], ◌∷◌, ◌++◌, length, Option, None, Some, refl, sym, ap, subst, arith, eqb-true}
use Rattle.std.specs.Prelude.{Result, Ok, Err}
use Rattle.std.specs.Option.{option_map_or}
use Rattle.std.proofs.lemmas.Bool.{leb-true, leb-false, ltb-true, true≢false, eq-eqb, not_from_false, not_from_true}
use Rattle.salus_types.specs.Volume.{Shape}
use Rattle.salus_types.specs.declared.names.Sender.{Sender}
use Rattle.salus_types.specs.declared.names.Sender.TheVariants as sender
use Rattle.salus_types.specs.declared.records.Record.{Record}
use Rattle.salus_message.specs.declared.small.Ask.{Ask}
use Rattle.salus_message.specs.declared.wire.Message.{Message}
use Rattle.salus_message.specs.declared.wire.Message.TheVariants as message
use Rattle.salus_message.specs.declared.wire.MessageError.{MessageError}
use Rattle.salus_message.specs.Reading.{message_at}
use Rattle.merkle_region.proofs.Membership.{among_left, among_right}
use Rattle.holding_model.specs.Changing.{changed, after_changes}
use Rattle.replica_rules.specs.Views.{View, view_after, view_root, is_accepted}
use Rattle.replica_rules.specs.Replicas.{Replica, with_view, Foreign, Known, Early, Full, Differs, Next, PartTaken, left_as, is_for, has_early, kept_early, tried, take_part, all_kept_in_turn, take_ask, AskTaken, is_asked_here, is_due, answer_to, with_ask}
use Rattle.replica_rules.specs.Nodes.{Memory, NodeState, base_held}
use Rattle.replica_rules.specs.Rules.{Turn, Plan, plan_of, ignored, part_answered, by_part, ask_taken, by_ask, by_dump, by_vote, by_claim, by_tick, by_gather, by_stage, says_switched, switched, by_switch, from_result, Input, Receives, Ticks, planned, handled}
use Rattle.run_rules.specs.Rooms.{is_full, has_no_room}
use Rattle.list_lemmas.proofs.Each.{either_way, OfSome, any_way, all_both, all_then}
use Rattle.list_lemmas.proofs.Members.{any_among, any_from}
use Rattle.list_lemmas.proofs.Tests.{by_bool, way_with}
use Rattle.law_answers.specs.Turning.{IsChain, IsInTurn, HasCome, GoesOn, TurnsTo, BringsPart, ComesIn}
use Rattle.law_answers.proofs.Rules.{OfMessage, OfResult, OfInput, planned_with}
use Rattle.law_answers.proofs.Turns.{on_same, on_on, IsBetween, all_done}
use Rattle.law_answers.proofs.Asks.{vote_replica, claim_replica, dump_replica, tick_replica, gather_memory, stage_memory}

module _ (shape : Shape) (IsPart : Record → Type 0) (IsView : View → Type 0) (chain : IsChain shape IsPart IsView) (g : ℕ) where
  abbrev InTurn : Replica → Type 0
  InTurn r = IsInTurn IsPart IsView r

  abbrev On : Replica → Replica → Type 0
  On before after = GoesOn IsPart before after

  same_on : (r : Replica) → On r r
  same_on r = on_same shape IsPart IsView chain r

  -- ---- a part

  module _ (m : Memory) (rec : Record) where
    abbrev r : Replica
    r = m.replica

    -- the replica before the kept asks are answered
    abbrev left_by : PartTaken → Replica
    left_by t = (part_answered shape g m rec t.replica t.answer).memory.replica

    record PartDone (t : PartTaken) : Type 0 where
      turn : InTurn (left_by t)
      on : On r (left_by t)
      come : is_full t.answer ≡ false → HasCome rec (left_by t)

    module _ (part : IsPart rec) (turn : InTurn r) where
      early_done : nat_le rec.header.seq r.view.number ≡ false → (rec.header.previous == r.view.number) ≡ false → PartDone (kept_early r rec)
      early_done above apart =
          let up : r.view.number < rec.header.seq = leb-false rec.header.seq r.view.number above in
          let low : r.view.number ≤ rec.header.previous = chain.between r.view rec turn.view part up in
          let over : r.view.number < rec.header.previous =
          by_bool (nat_le rec.header.previous r.view.number) (r.view.number < rec.header.previous)
          (λ le. let high : rec.header.previous ≤ r.view.number = leb-true rec.header.previous r.view.number le in absurd (true≢false (sym (eq-eqb rec.header.previous r.view.number (omega arith)) ∙ apart)))
          (λ gt. leb-false rec.header.previous r.view.number gt) in
          let more : Replica = record r { early = r.early ++ rec ∷ [] } in
          way_with (has_early r.early rec.header.previous) (left_as r Early) (if nat_lt (length r.early) 16 then left_as more Early else left_as r Full) PartDone
          (λ there. record { turn = turn; on = same_on r; come = λ _. inr there })
          (λ _. either_way (nat_lt (length r.early) 16) (left_as more Early) (left_as r Full) PartDone
          (record {
            turn = record { view = turn.view; early = all_both (λ e. IsPart e × (r.view.number < e.header.previous)) r.early (rec ∷ []) turn.early ((part, over), tt) };
            on = record {
              session = refl;
              rises = omega arith;
              come = λ other mine come. ⊎_elim (λ (known : other.header.seq ≤ r.view.number). inl known) (λ (kept : has_early r.early other.header.previous ≡ true).
                  let e = any_among (λ (e : Record). e.header.previous == other.header.previous) r.early kept in
                  inr (any_from (λ (e : Record). e.header.previous == other.header.previous) e.0 (r.early ++ rec ∷ []) (among_left e.0 r.early (rec ∷ []) e.1) e.2)) come;
            };
            come = λ _. inr (any_from (λ (e : Record). e.header.previous == rec.header.previous) rec (r.early ++ rec ∷ []) (among_right rec r.early (rec ∷ []) (inl refl)) (eq-eqb rec.header.previous rec.header.previous refl));
          })
          (record { turn = turn; on = same_on r; come = λ room. absurd (true≢false room) }))

      next_done : (rec.header.previous == r.view.number) ≡ true → PartDone (tried shape r rec)
      next_done goes =
          let is : rec.header.previous ≡ r.view.number = eqb-true rec.header.previous r.view.number goes in
          let up : rec.header.previous < rec.header.seq = chain.rises rec part in
          let next : Replica = with_view r (view_after shape r.view rec) in
          let first : On r next = record {
            session = refl;
            rises = omega (arith, up, is);
            come = λ other mine come. ⊎_elim (λ (known : other.header.seq ≤ r.view.number). inl (omega (arith, known, up, is))) (λ (kept : has_early r.early other.header.previous ≡ true). inr kept) come;
          } in
          let between : IsBetween shape IsPart IsView chain next = record {
            view = chain.after r.view rec turn.view part is;
            early = all_then (λ e. IsPart e × (r.view.number < e.header.previous)) (λ e. IsPart e × (rec.header.seq ≤ e.header.previous))
                (λ e of. let low : r.view.number < e.header.previous = of.1 in (of.0, chain.apart rec e part of.0 (omega (arith, low, is)))) r.early turn.early;
          } in
          let done = all_done shape IsPart IsView chain next between in
          way_with (is_accepted shape r.view rec) (left_as next Next) (left_as r (Differs rec.header.root (view_root shape (view_after shape r.view rec)))) PartDone
          (λ _. record {
            turn = done.turn;
            on = on_on shape IsPart IsView chain r next (all_kept_in_turn shape next).replica first done.on;
            come = λ _. done.on.come rec part (inl (omega arith));
          })
          (λ refused. absurd (true≢false (sym (chain.accepts r.view rec turn.view part is) ∙ refused)))

      part_done : is_for shape g r rec ≡ true → PartDone (take_part shape g r rec)
      unfolding take_part
      part_done mine =
          way_with (not (is_for shape g r rec)) (left_as r Foreign) (if nat_le rec.header.seq r.view.number then left_as r Known else (if rec.header.previous == r.view.number then tried shape r rec else kept_early r rec)) PartDone
          (λ other. absurd (true≢false (sym other ∙ not_from_true (is_for shape g r rec) mine)))
          (λ _. way_with (nat_le rec.header.seq r.view.number) (left_as r Known) (if rec.header.previous == r.view.number then tried shape r rec else kept_early r rec) PartDone
          (λ known. record { turn = turn; on = same_on r; come = λ _. inl (leb-true rec.header.seq r.view.number known) })
          (λ above. way_with (rec.header.previous == r.view.number) (tried shape r rec) (kept_early r rec) PartDone next_done (early_done above)))

    -- what is left by one of another session, region or shape
    foreign_left : InTurn r → is_for shape g r rec ≡ false → InTurn (left_by (take_part shape g r rec)) × On r (left_by (take_part shape g r rec))
    unfolding take_part
    foreign_left turn other =
        way_with (not (is_for shape g r rec)) (left_as r Foreign) (if nat_le rec.header.seq r.view.number then left_as r Known else (if rec.header.previous == r.view.number then tried shape r rec else kept_early r rec))
        (λ (t : PartTaken). InTurn (left_by t) × On r (left_by t)) (λ _. (turn, same_on r)) (λ mine. absurd (true≢false (sym (not_from_false (is_for shape g r rec) other) ∙ mine)))

    -- then the kept asks are answered
    abbrev now : Replica
    now = (by_part shape g rec m).memory.replica

    part_turns : InTurn r → (is_for shape g r rec ≡ true → IsPart rec) → InTurn now × On r now
    unfolding by_part
    part_turns turn given =
        by_bool (is_for shape g r rec) (InTurn now × On r now)
        (λ mine. let done = part_done (given mine) turn mine in (
          record { view = done.turn.view; early = done.turn.early },
          record { session = done.on.session; rises = done.on.rises; come = done.on.come },
        ))
        (λ other. let left = foreign_left turn other in (
          record { view = left.0.view; early = left.0.early },
          record { session = left.1.session; rises = left.1.rises; come = left.1.come },
        ))

    part_comes : InTurn r → is_for shape g r rec ≡ true → IsPart rec → has_no_room shape g rec m ≡ false → HasCome rec now
    unfolding by_part
    part_comes turn mine part room = (part_done part turn mine).come room

  -- ---- an ask changes neither view nor early parts

  ask_turns : (a : Ask) (m : Memory) → InTurn m.replica → InTurn (by_ask shape g a m).memory.replica × On m.replica (by_ask shape g a m).memory.replica
  unfolding by_ask take_ask
  ask_turns a m turn =
      let r : Replica = m.replica in
      let P : AskTaken → Type 0 = λ t. InTurn (ask_taken m t).memory.replica × On r (ask_taken m t).memory.replica in
      either_way (not (is_asked_here shape g r a)) (record { replica = r; answer = None })
      (if is_due r.view a then record { replica = r; answer = Some (answer_to shape r.view a) } else record { replica = record r { asks = with_ask r.asks a }; answer = None }) P (turn, same_on r)
      (either_way (is_due r.view a) (record { replica = r; answer = Some (answer_to shape r.view a) }) (record { replica = record r { asks = with_ask r.asks a }; answer = None }) P (turn, same_on r)
      (record { view = turn.view; early = turn.early }, record { session = refl; rises = omega arith; come = λ rec part come. come }))

  -- ---- every rule

  module _ (node : NodeState) (input : Input) (m : Memory) (there : node.memory ≡ Some m) (turn : InTurn m.replica) where
    abbrev Turns : Plan → Type 0
    Turns plan = (after_changes shape node.held plan.changes).session ≡ node.held.session → TurnsTo IsPart IsView m.replica plan.memory

    -- a rule leaves the replica in its turn
    by_turn : (t : Turn) → InTurn t.memory.replica × On m.replica t.memory.replica → Turns (plan_of t)
    by_turn t of stays = record { m = t.memory; is = refl; turn = of.0; on = of.1 }

    -- or as it was
    as_same : (rule : Memory → Turn) → ((k : Memory) → (rule k).memory.replica ≡ k.replica) → (k : Memory) → k ≡ m → Turns (plan_of (rule k))
    as_same rule same k is = by_turn (rule k) (subst (λ (x : Replica). InTurn x × On m.replica x) (sym (same k ∙ ap (λ (x : Memory). x.replica) is)) (turn, same_on m.replica))

    as_before : (plan : Plan) → plan.memory ≡ node.memory → Turns plan
    as_before plan same stays = record { m = m; is = same ∙ there; turn = turn; on = same_on m.replica }

    by_switch_turns : (e : ℕ) → Turns (by_switch shape g node e)
    unfolding by_switch after_changes changed
    by_switch_turns e =
        either_way (e == node.held.session) (says_switched node e) (if nat_lt node.held.session e then option_map_or (λ base. switched shape g node e) (base_held shape g e node.held) (ignored node) else ignored node) Turns
        (as_before (says_switched node e) refl)
        (way_with (nat_lt node.held.session e) (option_map_or (λ base. switched shape g node e) (base_held shape g e node.held) (ignored node)) (ignored node) Turns
        (λ rises. any_way Turns (λ base. switched shape g node e) (ignored node) (base_held shape g e node.held)
        (λ base stays. let up : node.held.session < e = ltb-true node.held.session e rises in let same : e ≡ node.held.session = stays in absurd (omega arith)) (as_before (ignored node) refl))
        (λ _. as_before (ignored node) refl))

    pub planned_turns : OfInput (λ rec. is_for shape g m.replica rec ≡ true → IsPart rec) (λ a. Unit {0}) input → Turns (planned shape g node input)
    planned_turns given =
        planned_with shape g node (λ k. k ≡ m) (subst (λ (o : Option Memory). OfSome (λ k. k ≡ m) o) (sym there) refl)
        (λ rec. is_for shape g m.replica rec ≡ true → IsPart rec) (λ a. Unit {0}) Turns (as_before (ignored node) refl)
        (λ rec k fits is. subst (λ (x : Memory). Turns (plan_of (by_part shape g rec x))) (sym is) (by_turn (by_part shape g rec m) (part_turns m rec turn fits)))
        (λ a k fits is. subst (λ (x : Memory). Turns (plan_of (by_ask shape g a x))) (sym is) (by_turn (by_ask shape g a m) (ask_turns a m turn)))
        (λ d k is. as_same (by_dump g d) (dump_replica shape g node d) k is)
        (λ name v k is. as_same (by_vote shape name v) (vote_replica shape g node name v) k is)
        (λ name c k is. as_same (by_claim shape name c) (claim_replica shape g node name c) k is)
        (λ k is. as_same (by_tick shape) (tick_replica shape g node) k is)
        (λ e. as_before (by_gather node e) (gather_memory shape g node e))
        (λ base. as_before (by_stage shape g node base) (stage_memory shape g node base))
        by_switch_turns input given

  -- ---- what the input brings

  module _ (Given : Record → Type 0) where
    given_message : (bytes : List ℕ) (m : Message) → message_at bytes ≡ Ok m → ((rec : Record) → BringsPart (Receives sender.Client bytes) rec → Given rec) → OfMessage Given (λ a. Unit {0}) m
    given_message bytes (message.Part m) is given = given m.rec is
    given_message bytes (message.Ask a) is given = tt
    given_message bytes (message.Gather m) is given = tt
    given_message bytes (message.Stage m) is given = tt
    given_message bytes (message.Switch m) is given = tt
    given_message bytes (message.Dump m) is given = tt
    given_message bytes (message.Prepared m) is given = tt
    given_message bytes (message.Committed m) is given = tt
    given_message bytes (message.Answer m) is given = tt
    given_message bytes (message.Gathered m) is given = tt
    given_message bytes (message.Staged m) is given = tt
    given_message bytes (message.Switched m) is given = tt
    given_message bytes (message.Dumped m) is given = tt

    given_result : (from : Sender) (bytes : List ℕ) (x : Result Message MessageError) → message_at bytes ≡ x → ((rec : Record) → BringsPart (Receives from bytes) rec → Given rec) → OfResult Given (λ a. Unit {0}) from x
    given_result sender.Client bytes (Ok m) is given = given_message bytes m is given
    given_result (sender.Node name) bytes (Ok m) is given = tt
    given_result from bytes (Err e) is given = tt

    pub given_input : (input : Input) → ((rec : Record) → BringsPart input rec → Given rec) → OfInput Given (λ a. Unit {0}) input
    given_input (Receives from bytes) given = given_result from bytes (message_at bytes) refl given
    given_input Ticks given = tt

  -- The law: what has come stays, and the replica stays in its turn.
  pub handled_turns : (node : NodeState) (input : Input) (m : Memory) → node.memory ≡ Some m → InTurn m.replica
      → ((rec : Record) → BringsPart input rec → is_for shape g m.replica rec ≡ true → IsPart rec) → (handled shape g node input).node.held.session ≡ node.held.session
      → TurnsTo IsPart IsView m.replica (handled shape g node input).node.memory
  handled_turns node input m there turn given stays = planned_turns node input m there turn (given_input (λ rec. is_for shape g m.replica rec ≡ true → IsPart rec) input given) stays

  -- ---- a part that is handed over

  plan_comes : (node : NodeState) (o : Option Memory) (m : Memory) (rec : Record) → o ≡ Some m → InTurn m.replica → is_for shape g m.replica rec ≡ true → IsPart rec → has_no_room shape g rec m ≡ false
      → ComesIn rec (option_map_or (λ k. plan_of (by_part shape g rec k)) o (ignored node)).memory
  plan_comes node o m rec is turn mine part room =
      subst (λ (o : Option Memory). ComesIn rec (option_map_or (λ k. plan_of (by_part shape g rec k)) o (ignored node)).memory) (sym is) (part_comes m rec turn mine part room)

  -- The law: with room it has come.
  pub handled_comes : (node : NodeState) (bytes : List ℕ) (m : Memory) (rec : Record) → node.memory ≡ Some m → InTurn m.replica → message_at bytes ≡ Ok (message.Part (record { rec = rec }))
      → is_for shape g m.replica rec ≡ true → IsPart rec → has_no_room shape g rec m ≡ false
      → ComesIn rec (handled shape g node (Receives sender.Client bytes)).node.memory
  unfolding planned
  handled_comes node bytes m rec there turn decoded mine part room =
      subst (λ (x : Result Message MessageError). ComesIn rec (from_result shape g node sender.Client x).memory) (sym decoded) (plan_comes node node.memory m rec there turn mine part room)
