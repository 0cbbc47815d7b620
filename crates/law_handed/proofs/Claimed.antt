-- Each claim, answer and dump that a node sends has its licence: the batch is certified by what was handed to it, or it is
-- the number of a folded base that it held; and the blocks have the root of a record that the client handed over, or of the
-- formatted base.
use Rattle.std.proofs.Common.{◌≡◌, ◌∙◌, ◌⊎◌, inl, inr, ℕ, zero, suc, ◌^◌, ◌<◌, ◌==◌, ◌&&◌, not, nat_lt, nat_le, Bool, true, false, if◌then◌else◌, List, [], ◌∷◌, ◌++◌, length, map, Option, None, Some, refl, sym, subst}
use Rattle.std.specs.Prelude.{filter, flat_map, option_map}
use Rattle.std.specs.List.{AllByRecursion, list_any}
use Rattle.std.proofs.Math.Nat.{mod-lt}
use Rattle.std.proofs.lemmas.Nat.{pow_pos}
use Rattle.std.proofs.lemmas.Bool.{eqb-true, eq-eqb}
use Rattle.std.proofs.lemmas.Slice.Eq.{bytes_eq-Decides}
use Rattle.salus_types.specs.Volume.{Shape}
use Rattle.salus_types.specs.declared.names.NodeName.{NodeName}
use Rattle.salus_types.specs.declared.names.Sender.TheVariants as sender
use Rattle.salus_types.specs.declared.records.Header.{Header}
use Rattle.salus_types.specs.declared.records.Record.{Record}
use Rattle.salus_types.specs.declared.records.Base.{Base}
use Rattle.salus_types.specs.declared.records.Held.{Held}
use Rattle.salus_message.specs.declared.small.Prepared.{Prepared}
use Rattle.salus_message.specs.declared.small.Committed.{Committed}
use Rattle.salus_message.specs.declared.small.Ask.{Ask}
use Rattle.salus_message.specs.declared.small.Dump.{Dump}
use Rattle.salus_message.specs.declared.wire.Message.{Message}
use Rattle.salus_message.specs.declared.wire.Message.TheVariants as message
use Rattle.merkle_region.specs.Tree.{root_of, IsAmong}
use Rattle.merkle_region.proofs.Reached.{path_from-Verifies}
use Rattle.holding_model.specs.Fitting.{has_content, has_shape, record_fits}
use Rattle.holding_model.specs.Changing.{FoldsTo, after_changes}
use Rattle.volume_model.specs.Contents.{region_of, place_of}
use Rattle.volume_model.specs.Recovering.{is_of}
use Rattle.volume_model.specs.Groups.{group_of, all_nodes}
use Rattle.salus_model.specs.Licences.{Letter, WasHanded, IsCertified, IsFolded, IsNamedRoot, IsRooted}
use Rattle.replica_rules.specs.Views.{View, view_of_base, view_after, view_root, is_accepted, has_right_shape, led_by}
use Rattle.replica_rules.specs.Replicas.{Replica, with_view, PartAnswer, Foreign, Known, Early, Full, Differs, Next, PartTaken, left_as, is_for, has_early, kept_early, tried, take_part, KeptTaken, next_kept, without_kept, take_out, take_kept, Applied, no_more, after_part, kept_in_turn, all_kept_in_turn, take_ask, AskTaken, is_asked_here, is_due, answer_to, with_ask, due_answers}
use Rattle.replica_rules.specs.Voting.{with_vote, with_claim, committed}
use Rattle.replica_rules.specs.Leading.{Leader, all_certified}
use Rattle.replica_rules.specs.Nodes.{Memory, NodeState, stands_for, base_held, goes_on, Tried, counted, all_tried, open_parts, memory_of, loaded_as}
use Rattle.replica_rules.specs.Rules.{Sending, Turn, Plan, quiet, vote_for, votes_for, claim_of, claims_of, then_claims, part_answered, then_answers, by_part, ask_taken, by_ask, same_record, dumped, by_dump, with_leader, by_vote, fold_number, folds, after_fold, then_fold, by_claim, is_at_start, by_tick}
use Rattle.list_lemmas.proofs.Each.{either_way, all_both, all_filter, all_map, all_then, all_each, all_flat, OfSome, found_of_all, some_way, all_pass, all_zip}
use Rattle.list_lemmas.proofs.Members.{among_all, found_among}
use Rattle.list_lemmas.proofs.Tests.{way_with, and_left, and_right}
use Rattle.law_handed.specs.Fitting.{PartFits, BaseFits}
use Rattle.law_handed.proofs.Counting.{IsCounted, after_counted}
use Rattle.law_handed.proofs.Soundly.{HasItsRoot}
use Rattle.law_handed.proofs.Agreed.{AllRooted}
use Rattle.law_handed.proofs.Licensed.{Came, Named, Counted, HeldNamed}
use Rattle.law_handed.proofs.Leaders.{LeaderBacked, IsNext, all_next, front_moved, vote_more, claim_more, noted_more, leader_begun}

not_false : (b : Bool) → not b ≡ false → b ≡ true
not_false true e = refl
not_false false e = absurd (cc)

fits_of : (shape : Shape) (g : ℕ) (rec : Record) → has_right_shape shape g rec ≡ true → record_fits shape rec ≡ true
unfolding has_right_shape
fits_of shape g rec right = and_right _ (record_fits shape rec) right

module _ (shape : Shape) (letters : List Letter) (moments : List Held) (formatted : Record) (Begun : Type 0) (g : ℕ) where
  -- a part of the session and region that the client handed over, and that fits
  pub record IsPartHere (e : ℕ) (rec : Record) : Type 0 where
    pub came : Came letters rec
    pub session : rec.header.session ≡ e
    pub region : rec.header.region ≡ g
    pub inside : record_fits shape rec ≡ true

  abbrev AllHere : ℕ → List Record → Type 0
  AllHere e parts = AllByRecursion (IsPartHere e) parts

  abbrev OfSession : ℕ → Record → Type 0
  OfSession e rec = Came letters rec × (rec.header.session ≡ e)

  all_of_session : (e : ℕ) (parts : List Record) → AllHere e parts → AllByRecursion (OfSession e) parts
  all_of_session e parts all = all_then (IsPartHere e) (OfSession e) (λ rec part. (part.came, part.session)) parts all

  -- a block for each place, and the root is that of a record of the session, region and number
  pub record IsViewNamed (e : ℕ) (view : View) : Type 0 where
    pub many : IsCounted shape view.blocks
    pub root : IsNamedRoot letters formatted e g view.number (root_of shape.height view.blocks)

  abbrev ViewNamed : ℕ → View → Type 0
  ViewNamed e view = Begun → IsViewNamed e view

  -- a part that is accepted names the root of the blocks after it
  after_named : (e : ℕ) (view : View) (rec : Record) → IsPartHere e rec → is_accepted shape view rec ≡ true → ViewNamed e view → ViewNamed e (view_after shape view rec)
  after_named e view rec part accepted named begun = record {
    many = after_counted shape view.blocks rec (named begun).many part.inside;
    root = (rec, part.session, part.region, refl, sym ((bytes_eq-Decides (view_root shape (view_after shape view rec)) rec.header.root).0 accepted), inr (inl part.came));
  }

  abbrev AskOf : ℕ → Ask → Type 0
  AskOf e ask = ask.session ≡ e

  pub record ReplicaBacked (e : ℕ) (r : Replica) : Type 0 where
    pub session : r.session ≡ e
    pub view : ViewNamed e r.view
    pub early : AllHere e r.early
    pub asks : AllByRecursion (AskOf e) r.asks

  -- a base that is folded doesn't tell with which number its session began
  abbrev pub BegunBy : ℕ → ℕ → Option ℕ → Type 0
  BegunBy e x None = IsFolded moments e x
  BegunBy e x (Some begun) = begun ≡ x

  pub record MemoryBacked (m : Memory) : Type 0 where
    pub e : ℕ
    pub replica : ReplicaBacked e m.replica
    pub leader : LeaderBacked shape letters moments e m.leader
    pub begun : BegunBy e m.leader.base m.begun

  abbrev pub IsGranted : Message → Type 0
  IsGranted (message.Committed m) = IsCertified shape letters moments m.session m.front ⊎ IsFolded moments m.session m.front
  IsGranted (message.Answer m) = Begun → IsRooted shape letters formatted g m
  IsGranted (message.Dumped m) = Begun → IsNamedRoot letters formatted m.session m.region m.at (root_of shape.height m.blocks)
  IsGranted (message.Prepared m) = Unit {0}
  IsGranted (message.Gathered m) = Unit {0}
  IsGranted (message.Staged m) = Unit {0}
  IsGranted (message.Switched m) = Unit {0}
  IsGranted other = ⊥

  abbrev pub AllGranted : List Sending → Type 0
  AllGranted outs = AllByRecursion (λ out. IsGranted out.message) outs

  pub record TurnBacked (turn : Turn) : Type 0 where
    pub memory : MemoryBacked turn.memory
    pub outs : AllGranted turn.outs

  -- where what is held then is one of the moments
  pub record PlanBacked (node : NodeState) (plan : Plan) : Type 0 where
    pub memory : IsAmong (after_changes shape node.held plan.changes) moments → OfSome MemoryBacked plan.memory
    pub outs : AllGranted plan.outs

  -- ---- messages

  votes_hold : (rec : Record) → AllGranted (votes_for shape rec)
  votes_hold rec =
      all_map (λ out. IsGranted out.message) (λ name. record { to = sender.Node name; message = vote_for rec }) (group_of shape (led_by rec.header))
      (all_each (λ name. IsGranted (vote_for rec)) (group_of shape (led_by rec.header)) (λ name. tt))

  all_votes_hold : (parts : List Record) → AllGranted (flat_map (λ rec. votes_for shape rec) parts)
  all_votes_hold parts = all_flat (λ out. IsGranted out.message) (λ rec. votes_for shape rec) parts votes_hold

  claims_hold : (e front : ℕ) → IsGranted (claim_of e front) → AllGranted (claims_of shape e front)
  claims_hold e front holds = (
    holds,
    all_map (λ out. IsGranted out.message) (λ name. record { to = sender.Node name; message = claim_of e front }) (all_nodes shape)
        (all_each (λ name. IsGranted (claim_of e front)) (all_nodes shape) (λ name. holds)),
  )

  next_claims : (s e : ℕ) (leader : Leader) → s ≡ e → (headers : List Header) → AllByRecursion (IsNext shape letters moments e leader) headers → AllGranted (flat_map (λ h. claims_of shape s h.seq) headers)
  next_claims s e leader same [] all = tt
  next_claims s e leader same (h ∷ headers) all =
      all_both (λ out. IsGranted out.message) (claims_of shape s h.seq) (flat_map (λ k. claims_of shape s k.seq) headers)
      (claims_hold s h.seq (inl (subst (λ (n : ℕ). IsCertified shape letters moments n h.seq) (sym same) all.0.1))) (next_claims s e leader same headers all.1)

  claims_turn : (turn : Turn) → TurnBacked turn → TurnBacked (then_claims shape turn)
  claims_turn turn back =
      let m : MemoryBacked turn.memory = back.memory in record {
        memory = record { e = m.e; replica = m.replica; leader = front_moved shape letters moments m.e turn.memory.leader m.leader; begun = m.begun };
        outs = all_both (λ out. IsGranted out.message) turn.outs (flat_map (λ h. claims_of shape turn.memory.replica.session h.seq) (all_certified shape turn.memory.leader)) back.outs
            (next_claims turn.memory.replica.session m.e turn.memory.leader m.replica.session (all_certified shape turn.memory.leader) (all_next shape letters moments m.e turn.memory.leader m.leader));
      }

  -- ---- answers

  answer_granted : (e : ℕ) (view : View) → ViewNamed e view → (ask : Ask) → AskOf e ask → IsGranted (message.Answer (answer_to shape view ask))
  answer_granted e view named ask same begun =
      let root : List ℕ = root_of shape.height view.blocks in
      let within : place_of shape ask.block < 2 ^ shape.height = mod-lt ask.block (pow_pos shape.height) in (
        root,
        subst (λ (s : ℕ). IsNamedRoot letters formatted s g view.number root) (sym same) (named begun).root,
        path_from-Verifies shape.height view.blocks (place_of shape ask.block) (named begun).many within,
      )

  answers_turn : (turn : Turn) → TurnBacked turn → TurnBacked (then_answers shape turn)
  answers_turn turn back =
      let m : MemoryBacked turn.memory = back.memory in
      let r : Replica = turn.memory.replica in
      let due : List Ask = filter (λ ask. is_due r.view ask) r.asks in
      record {
        memory = record {
          e = m.e;
          replica = record { session = m.replica.session; view = m.replica.view; early = m.replica.early; asks = all_filter (AskOf m.e) (λ ask. not (is_due r.view ask)) r.asks m.replica.asks };
          leader = m.leader;
          begun = m.begun;
        };
        outs = all_both (λ out. IsGranted out.message) turn.outs (map (λ answer. record { to = sender.Client; message = message.Answer answer }) (due_answers shape r)) back.outs
            (all_map (λ out. IsGranted out.message) (λ answer. record { to = sender.Client; message = message.Answer answer }) (due_answers shape r)
            (all_map (λ answer. IsGranted (message.Answer answer)) (λ ask. answer_to shape r.view ask) due
            (all_then (AskOf m.e) (λ ask. IsGranted (message.Answer (answer_to shape r.view ask))) (answer_granted m.e r.view m.replica.view) due
            (all_filter (AskOf m.e) (λ ask. is_due r.view ask) r.asks m.replica.asks))));
      }

  -- ---- the replica

  abbrev NextOf : ℕ → Record → PartAnswer → Type 0
  NextOf e rec Next = IsPartHere e rec
  NextOf e rec Known = Unit {0}
  NextOf e rec Early = Unit {0}
  NextOf e rec Foreign = Unit {0}
  NextOf e rec Full = Unit {0}
  NextOf e rec (Differs root got) = Unit {0}

  record Took (e : ℕ) (rec : Record) (taken : PartTaken) : Type 0 where
    pub replica : ReplicaBacked e taken.replica
    pub next : NextOf e rec taken.answer

  record TookKept (e : ℕ) (taken : KeptTaken) : Type 0 where
    pub replica : ReplicaBacked e taken.replica
    pub part : OfSome (IsPartHere e) taken.part

  record AppliedOf (e : ℕ) (applied : Applied) : Type 0 where
    pub replica : ReplicaBacked e applied.replica
    pub parts : AllHere e applied.parts

  module _ (e : ℕ) where
    early_more : (r : Replica) (rec : Record) → ReplicaBacked e r → IsPartHere e rec → Took e rec (kept_early r rec)
    early_more r rec back mine =
        let stays : (answer : PartAnswer) → NextOf e rec answer → Took e rec (left_as r answer) = λ answer next. record { replica = back; next = next } in
        either_way (has_early r.early rec.header.previous) (left_as r Early) (if nat_lt (length r.early) 16 then left_as (record r { early = r.early ++ rec ∷ [] }) Early else left_as r Full) (Took e rec)
        (stays Early tt)
        (either_way (nat_lt (length r.early) 16) (left_as (record r { early = r.early ++ rec ∷ [] }) Early) (left_as r Full) (Took e rec)
        (record { replica = record { session = back.session; view = back.view; early = all_both (IsPartHere e) r.early (rec ∷ []) back.early (mine, tt); asks = back.asks }; next = tt }) (stays Full tt))

    tried_next : (r : Replica) (rec : Record) → ReplicaBacked e r → IsPartHere e rec → Took e rec (tried shape r rec)
    tried_next r rec back mine =
        way_with (is_accepted shape r.view rec) (left_as (with_view r (view_after shape r.view rec)) Next) (left_as r (Differs rec.header.root (view_root shape (view_after shape r.view rec)))) (Took e rec)
        (λ accepted. record { replica = record { session = back.session; view = after_named e r.view rec mine accepted back.view; early = back.early; asks = back.asks }; next = mine })
        (λ differs. record { replica = back; next = tt })

    take_part_of : (r : Replica) (rec : Record) → ReplicaBacked e r → Came letters rec → Took e rec (take_part shape g r rec)
    unfolding take_part
    take_part_of r rec back came =
        way_with (not (is_for shape g r rec)) (left_as r Foreign) (if nat_le rec.header.seq r.view.number then left_as r Known else (if rec.header.previous == r.view.number then tried shape r rec else kept_early r rec)) (Took e rec)
        (λ foreign. record { replica = back; next = tt })
        (λ ours.
        let is_ours : is_for shape g r rec ≡ true = not_false (is_for shape g r rec) ours in
        let both : ((rec.header.session == r.session) && (rec.header.region == g)) ≡ true = and_left ((rec.header.session == r.session) && (rec.header.region == g)) (has_right_shape shape g rec) is_ours in
        let mine : IsPartHere e rec = record {
          came = came;
          session = eqb-true rec.header.session r.session (and_left (rec.header.session == r.session) (rec.header.region == g) both) ∙ back.session;
          region = eqb-true rec.header.region g (and_right (rec.header.session == r.session) (rec.header.region == g) both);
          inside = fits_of shape g rec (and_right ((rec.header.session == r.session) && (rec.header.region == g)) (has_right_shape shape g rec) is_ours);
        } in
        either_way (nat_le rec.header.seq r.view.number) (left_as r Known) (if rec.header.previous == r.view.number then tried shape r rec else kept_early r rec) (Took e rec) (record { replica = back; next = tt })
        (either_way (rec.header.previous == r.view.number) (tried shape r rec) (kept_early r rec) (Took e rec) (tried_next r rec back mine) (early_more r rec back mine)))

    take_kept_of : (r : Replica) → ReplicaBacked e r → TookKept e (take_kept shape r)
    unfolding take_kept
    take_kept_of r back =
        let less : AllHere e (without_kept r).early = all_filter (IsPartHere e) (λ rec. not (rec.header.previous == r.view.number)) r.early back.early in
        some_way (IsPartHere e) (TookKept e) (λ rec. take_out shape r rec) (record { replica = r; part = None }) (next_kept r)
        (found_of_all (IsPartHere e) (λ rec. rec.header.previous == r.view.number) r.early back.early)
        (λ rec mine. way_with (is_accepted shape r.view rec) (record { replica = with_view (without_kept r) (view_after shape r.view rec); part = Some rec }) (record { replica = without_kept r; part = None }) (TookKept e)
        (λ accepted. record { replica = record { session = back.session; view = after_named e r.view rec mine accepted back.view; early = less; asks = back.asks }; part = mine })
        (λ differs. record { replica = record { session = back.session; view = back.view; early = less; asks = back.asks }; part = tt }))
        (record { replica = back; part = tt })

    kept_in_turn_of : (n : ℕ) (r : Replica) → ReplicaBacked e r → AppliedOf e (kept_in_turn shape n r)
    unfolding kept_in_turn
    kept_in_turn_of zero r back = record { replica = back; parts = tt }
    kept_in_turn_of (suc n) r back =
        let taken : TookKept e (take_kept shape r) = take_kept_of r back in
        let more : AppliedOf e (kept_in_turn shape n (take_kept shape r).replica) = kept_in_turn_of n (take_kept shape r).replica taken.replica in
        some_way (IsPartHere e) (AppliedOf e) (λ rec. after_part rec (kept_in_turn shape n (take_kept shape r).replica)) (no_more (take_kept shape r).replica) (take_kept shape r).part
        taken.part (λ rec mine. record { replica = more.replica; parts = (mine, more.parts) }) (record { replica = taken.replica; parts = tt })

  -- ---- the rules of an open session

  quiet_backed : (m : Memory) → MemoryBacked m → TurnBacked (quiet m)
  quiet_backed m back = record { memory = back; outs = tt }

  answered_backed : (m : Memory) (rec : Record) (r : Replica) (answer : PartAnswer) → (back : MemoryBacked m) → ReplicaBacked back.e r → NextOf back.e rec answer → TurnBacked (part_answered shape g m rec r answer)
  answered_backed m rec r Next back now next =
      let e : ℕ = back.e in
      let more : AppliedOf e (all_kept_in_turn shape r) = kept_in_turn_of e (length r.early) r now in
      let parts : List Record = (after_part rec (all_kept_in_turn shape r)).parts in
      record {
        memory = record {
          e = e;
          replica = more.replica;
          leader = record {
            base = back.leader.base;
            low = back.leader.low;
            front = back.leader.front;
            noted = noted_more shape letters moments e g m.leader.noted parts back.leader.noted (all_of_session e parts (next, more.parts));
            votes = back.leader.votes;
            claims = back.leader.claims;
          };
          begun = back.begun;
        };
        outs = all_votes_hold parts;
      }
  answered_backed m rec r Known back now next = record {
    memory = back;
    outs = either_way (list_any (λ held. same_record held rec) m.parts) (votes_for shape rec) [] AllGranted (votes_hold rec) tt;
  }
  answered_backed m rec r Early back now next = record { memory = record { e = back.e; replica = now; leader = back.leader; begun = back.begun }; outs = tt }
  answered_backed m rec r Foreign back now next = quiet_backed m back
  answered_backed m rec r Full back now next = quiet_backed m back
  answered_backed m rec r (Differs root got) back now next = quiet_backed m back

  pub part_backed : (rec : Record) (m : Memory) → MemoryBacked m → Came letters rec → TurnBacked (by_part shape g rec m)
  unfolding by_part
  part_backed rec m back came =
      let taken : PartTaken = take_part shape g m.replica rec in
      let took : Took back.e rec taken = take_part_of back.e m.replica rec back.replica came in
      let turn : Turn = part_answered shape g m rec taken.replica taken.answer in
      claims_turn (then_answers shape turn) (answers_turn turn (answered_backed m rec taken.replica taken.answer back took.replica took.next))

  asks_more : (e : ℕ) (asks : List Ask) (ask : Ask) → AllByRecursion (AskOf e) asks → AskOf e ask → AllByRecursion (AskOf e) (with_ask asks ask)
  unfolding with_ask
  asks_more e [] ask all one = (one, tt)
  asks_more e (other ∷ asks) ask all one =
      either_way (nat_lt ask.read other.read) (ask ∷ other ∷ asks) (if ask.read == other.read then ask ∷ asks else other ∷ with_ask asks ask) (λ l. AllByRecursion (AskOf e) l) (one, all)
      (either_way (ask.read == other.read) (ask ∷ asks) (other ∷ with_ask asks ask) (λ l. AllByRecursion (AskOf e) l) (one, all.1) (all.0, asks_more e asks ask all.1 one))

  with_replica : (m : Memory) (back : MemoryBacked m) (r : Replica) → ReplicaBacked back.e r → MemoryBacked (record m { replica = r })
  with_replica m back r now = record { e = back.e; replica = now; leader = back.leader; begun = back.begun }

  pub ask_backed : (ask : Ask) (m : Memory) → MemoryBacked m → TurnBacked (by_ask shape g ask m)
  unfolding by_ask take_ask
  ask_backed ask m back =
      let r : Replica = m.replica in
      way_with {A = AskTaken} (not (is_asked_here shape g r ask)) (record { replica = r; answer = None })
      (if is_due r.view ask then record { replica = r; answer = Some (answer_to shape r.view ask) } else record { replica = record r { asks = with_ask r.asks ask }; answer = None }) (λ t. TurnBacked (ask_taken m t))
      (λ elsewhere. record { memory = with_replica m back r back.replica; outs = tt })
      (λ here.
      let same : ask.session ≡ back.e = eqb-true ask.session r.session (and_left (ask.session == r.session) (region_of shape ask.block == g) (not_false (is_asked_here shape g r ask) here)) ∙ back.replica.session in
      either_way {A = AskTaken} (is_due r.view ask) (record { replica = r; answer = Some (answer_to shape r.view ask) }) (record { replica = record r { asks = with_ask r.asks ask }; answer = None }) (λ t. TurnBacked (ask_taken m t))
      (record { memory = with_replica m back r back.replica; outs = (answer_granted back.e r.view back.replica.view ask same, tt) })
      (record {
        memory = with_replica m back (record r { asks = with_ask r.asks ask })
            (record { session = back.replica.session; view = back.replica.view; early = back.replica.early; asks = asks_more back.e r.asks ask back.replica.asks same });
        outs = tt;
      }))

  pub dump_backed : (dump : Dump) (m : Memory) → MemoryBacked m → TurnBacked (by_dump g dump m)
  unfolding by_dump
  dump_backed dump m back =
      let root : List ℕ = root_of shape.height m.replica.view.blocks in
      either_way ((dump.session == m.replica.session) && (dump.region == g)) (dumped g m) (quiet m) TurnBacked
      (record {
        memory = back;
        outs = (λ begun. subst (λ (s : ℕ). IsNamedRoot letters formatted s g m.replica.view.number root) (sym back.replica.session) (back.replica.view begun).root, tt);
      })
      (quiet_backed m back)

  pub vote_backed : (name : NodeName) (vote : Prepared) (m : Memory) → MemoryBacked m → WasHanded letters (sender.Node name) (message.Prepared vote) → TurnBacked (by_vote shape name vote m)
  unfolding by_vote
  vote_backed name vote m back handed =
      let next : Memory = with_leader m (record m.leader { votes = with_vote m.leader.votes name vote.seq vote.root }) in
      way_with ((vote.session == m.replica.session) && (vote.region == name.region)) (then_claims shape (quiet next)) (quiet m) TurnBacked
      (λ pass. claims_turn (quiet next) (record {
        memory = record {
          e = back.e;
          replica = back.replica;
          leader = vote_more shape letters moments back.e m.leader name vote back.leader handed
              (eqb-true vote.session m.replica.session (and_left (vote.session == m.replica.session) (vote.region == name.region) pass) ∙ back.replica.session)
              (eqb-true vote.region name.region (and_right (vote.session == m.replica.session) (vote.region == name.region) pass));
          begun = back.begun;
        };
        outs = tt;
      }))
      (λ fail. quiet_backed m back)

  fold_backed : (turn : Turn) → TurnBacked turn → TurnBacked (then_fold shape turn)
  fold_backed turn back =
      let m : MemoryBacked turn.memory = back.memory in
      either_way (folds shape turn.memory)
      (record { memory = after_fold turn.memory (fold_number shape turn.memory); outs = turn.outs; changes = turn.changes ++ FoldsTo (fold_number shape turn.memory) ∷ [] }) turn TurnBacked
      (record { memory = record { e = m.e; replica = m.replica; leader = m.leader; begun = m.begun }; outs = back.outs }) back

  pub claim_backed : (name : NodeName) (claim : Committed) (m : Memory) → MemoryBacked m → WasHanded letters (sender.Node name) (message.Committed claim) → TurnBacked (by_claim shape name claim m)
  unfolding by_claim
  claim_backed name claim m back handed =
      let next : Memory = with_leader m (record m.leader { claims = with_claim m.leader.claims name claim.front }) in
      way_with (claim.session == m.replica.session) (then_fold shape (then_claims shape (quiet next))) (quiet m) TurnBacked
      (λ pass. fold_backed (then_claims shape (quiet next)) (claims_turn (quiet next) (record {
        memory = record {
          e = back.e;
          replica = back.replica;
          leader = claim_more shape letters moments back.e m.leader name claim back.leader handed (eqb-true claim.session m.replica.session pass ∙ back.replica.session);
          begun = back.begun;
        };
        outs = tt;
      })))
      (λ fail. quiet_backed m back)

  -- what it claims again at a tick
  front_holds : (e base front : ℕ) (begun : Option ℕ) → BegunBy e base begun → (front ≡ base) ⊎ IsCertified shape letters moments e front → is_at_start front begun ≡ false
      → IsCertified shape letters moments e front ⊎ IsFolded moments e front
  front_holds e base front None folded (inl same) past = inr (subst (λ (n : ℕ). IsFolded moments e n) (sym same) folded)
  front_holds e base front (Some begun) is (inl same) past = absurd (differ (sym (eq-eqb front begun (same ∙ sym is)) ∙ past)) where
    differ : true ≡ false → ⊥
    differ e = cc
  front_holds e base front begun is (inr certified) past = inl certified

  pub tick_backed : (m : Memory) → MemoryBacked m → TurnBacked (by_tick shape m)
  unfolding by_tick
  tick_backed m back =
      let parts : List Record = filter (λ rec. nat_lt (committed shape m.leader.claims) rec.header.seq) m.parts in
      let e : ℕ = m.replica.session in
      let last : List Sending = if is_at_start m.leader.front m.begun then [] else claims_of shape e m.leader.front in
      record {
        memory = back;
        outs = all_both (λ out. IsGranted out.message) (flat_map (λ rec. votes_for shape rec) parts) last (all_votes_hold parts)
            (way_with (is_at_start m.leader.front m.begun) [] (claims_of shape e m.leader.front) AllGranted (λ start. tt)
            (λ past. claims_hold e m.leader.front (subst (λ (s : ℕ). IsCertified shape letters moments s m.leader.front ⊎ IsFolded moments s m.leader.front) (sym back.replica.session)
            (front_holds back.e m.leader.base m.leader.front m.begun back.begun back.leader.front past))));
      }

  -- ---- a load

  record TriedBacked (e : ℕ) (t : Tried) : Type 0 where
    pub view : ViewNamed e t.view
    pub parts : AllHere e t.parts

  tried_of : (e : ℕ) (parts : List Record) (view : View) → AllByRecursion (OfSession e) parts → ViewNamed e view → TriedBacked e (all_tried shape g view parts)
  unfolding all_tried
  tried_of e [] view all named = record { view = named; parts = tt }
  tried_of e (rec ∷ parts) view all named =
      way_with (goes_on shape g view rec) (counted rec (all_tried shape g (view_after shape view rec) parts)) (all_tried shape g view parts) (TriedBacked e)
      (λ on.
      let three : ((rec.header.region == g) && has_right_shape shape g rec && (rec.header.previous == view.number)) ≡ true = and_left ((rec.header.region == g) && has_right_shape shape g rec && (rec.header.previous == view.number)) (is_accepted shape view rec) on in
      let two : ((rec.header.region == g) && has_right_shape shape g rec) ≡ true = and_left ((rec.header.region == g) && has_right_shape shape g rec) (rec.header.previous == view.number) three in
      let mine : IsPartHere e rec = record {
        came = all.0.0;
        session = all.0.1;
        region = eqb-true rec.header.region g (and_left (rec.header.region == g) (has_right_shape shape g rec) two);
        inside = fits_of shape g rec (and_right (rec.header.region == g) (has_right_shape shape g rec) two);
      } in
      let accepted : is_accepted shape view rec ≡ true = and_right ((rec.header.region == g) && has_right_shape shape g rec && (rec.header.previous == view.number)) (is_accepted shape view rec) on in
      let more : TriedBacked e (all_tried shape g (view_after shape view rec) parts) = tried_of e parts (view_after shape view rec) all.1 (after_named e view rec mine accepted named) in
      record { view = more.view; parts = (mine, more.parts) })
      (λ off. tried_of e parts view all.1 named)

  abbrev HeldHere : Held → Type 0
  HeldHere held = HeldNamed letters formatted Begun shape held

  open_of : (held : Held) → HeldHere held → AllByRecursion (OfSession held.session) (open_parts held)
  open_of held fits =
      all_then (λ rec. PartFits shape (Came letters) rec × ((rec.header.session == held.session) ≡ true)) (OfSession held.session) (λ rec both. (both.0.given, eqb-true rec.header.session held.session both.1)) (open_parts held)
      (all_zip (PartFits shape (Came letters)) (λ rec. (rec.header.session == held.session) ≡ true) (open_parts held) (all_filter (PartFits shape (Came letters)) (λ rec. rec.header.session == held.session) held.parts fits.parts)
      (all_pass (λ rec. rec.header.session == held.session) held.parts))

  base_named : (held : Held) (base : Base) → HeldHere held → (Begun → AllRooted shape held) → IsAmong base held.bases → is_of held.session g base.rec.header ≡ true → ViewNamed held.session (view_of_base base)
  base_named held base fits rooted among is begun =
      let of : BaseFits (Named letters formatted Begun shape) (Counted letters formatted Begun shape) base = among_all (BaseFits (Named letters formatted Begun shape) (Counted letters formatted Begun shape)) held.bases base among fits.bases in
      let root : HasItsRoot shape base = among_all (HasItsRoot shape) held.bases base among (rooted begun) in
      record {
        many = of.whole begun;
        root = (
          base.rec,
          eqb-true base.rec.header.session held.session (and_left (base.rec.header.session == held.session) (base.rec.header.region == g) is),
          eqb-true base.rec.header.region g (and_right (base.rec.header.session == held.session) (base.rec.header.region == g) is),
          refl,
          sym root,
          of.given begun,
        );
      }

  memory_begun : (held : Held) (base : Base) → HeldHere held → (Begun → AllRooted shape held) → IsAmong held moments → IsAmong base held.bases → is_of held.session g base.rec.header ≡ true → MemoryBacked (memory_of shape g held base)
  memory_begun held base fits rooted at among is =
      let same : base.rec.header.session ≡ held.session = eqb-true base.rec.header.session held.session (and_left (base.rec.header.session == held.session) (base.rec.header.region == g) is) in
      let parts : List Record = (all_tried shape g (view_of_base base) (open_parts held)).parts in
      let tried_all : TriedBacked held.session (all_tried shape g (view_of_base base) (open_parts held)) = tried_of held.session (open_parts held) (view_of_base base) (open_of held fits) (base_named held base fits rooted among is) in record {
        e = held.session;
        replica = record { session = refl; view = tried_all.view; early = tt; asks = tt };
        leader = leader_begun shape letters moments held.session base.rec.header.seq g parts (held, at, base, among, same, refl) (all_of_session held.session parts tried_all.parts);
        begun = way_with (has_content base.rec.writes base.rec.run) None (Some base.rec.header.seq) (BegunBy held.session base.rec.header.seq) (λ pass. (held, at, base, among, same, refl, pass)) (λ fail. refl);
      }

  pub loaded_backed : (held : Held) → HeldHere held → (Begun → AllRooted shape held) → IsAmong held moments → OfSome MemoryBacked (loaded_as shape g held).memory
  unfolding loaded_as
  loaded_backed held fits rooted at = either_begun (held.session == 0) where
    of_base : (o : Option Base) → OfSome (λ base. IsAmong base held.bases × (stands_for shape g held.session base ≡ true)) o → OfSome MemoryBacked (option_map (λ base. memory_of shape g held base) o)
    of_base None found = tt
    of_base (Some base) found = memory_begun held base fits rooted at found.0 (and_left (is_of held.session g base.rec.header) (has_shape shape base.blocks) found.1)

    either_begun : (b : Bool) → OfSome MemoryBacked (option_map (λ base. memory_of shape g held base) (if b then None else base_held shape g held.session held))
    either_begun true = tt
    either_begun false = of_base (base_held shape g held.session held) (found_among (λ base. stands_for shape g held.session base) held.bases)
