-- A step of a node that speaks: its session changes only by a switch that the client sent, its replica stays in its turn, and
-- the bases of later sessions that it holds have the right records and blocks.
use Rattle.std.proofs.Common.{◌≡◌, ◌∙◌, ◌⊎◌, inl, inr, ℕ, ◌<◌, ◌≤◌, ◌==◌, ◌&&◌, not, nat_le, nat_lt, Bool, true, false, if◌then◌else◌, List, [], ◌∷◌, ◌++◌, length, map, Option, None, Some, bytes_eq, refl, sym, ap, subst, arith, eqb-true}
use Rattle.std.specs.Prelude.{filter, find, option_map, Result, Ok, Err}
use Rattle.std.specs.Option.{option_map_or}
use Rattle.std.specs.List.{AllByRecursion}
use Rattle.std.proofs.lemmas.Bool.{true≢false, ltb-true, le-leb, ne_eqb}
use Rattle.std.proofs.lemmas.Slice.Eq.{bytes_eq-Decides}
use Rattle.salus_types.specs.Volume.{Shape, regions}
use Rattle.salus_types.specs.declared.names.NodeName.{NodeName}
use Rattle.salus_types.specs.declared.names.Sender.{Sender}
use Rattle.salus_types.specs.declared.names.Sender.TheVariants as sender
use Rattle.salus_types.specs.declared.records.Record.{Record}
use Rattle.salus_types.specs.declared.records.Base.{Base}
use Rattle.salus_types.specs.declared.records.Held.{Held}
use Rattle.salus_message.specs.declared.small.Prepared.{Prepared}
use Rattle.salus_message.specs.declared.small.Committed.{Committed}
use Rattle.salus_message.specs.declared.small.Ask.{Ask}
use Rattle.salus_message.specs.declared.small.Dump.{Dump}
use Rattle.salus_message.specs.declared.wire.Message.{Message}
use Rattle.salus_message.specs.declared.wire.Message.TheVariants as message
use Rattle.salus_message.specs.declared.wire.MessageError.{MessageError}
use Rattle.salus_message.specs.Reading.{message_at}
use Rattle.merkle_region.specs.Tree.{root_of, IsAmong, NoTwoCollide}
use Rattle.merkle_region.proofs.Membership.{among_either}
use Rattle.holding_model.specs.Fitting.{has_content, has_shape, record_fits}
use Rattle.holding_model.specs.Changing.{Change, AddsPart, AddsBase, SwitchesTo, FoldsTo, is_folded, is_open_base, base_after_all, folded, changed, after_changes}
use Rattle.volume_model.specs.Contents.{blocks_in}
use Rattle.volume_model.specs.Parts.{Session, contents_after}
use Rattle.volume_model.specs.Recovering.{is_of}
use Rattle.salus_model.specs.Judge.{Judge, known_at}
use Rattle.salus_model.specs.Forgery.{IsPartOf, IsTagged}
use Rattle.replica_rules.specs.Views.{view_of_base, view_root, header_is_right, has_right_shape}
use Rattle.replica_rules.specs.Replicas.{Replica, PartAnswer, Foreign, Known, Early, Full, Differs, Next, PartTaken, left_as, take_part, tried, kept_early, is_for, after_part, all_kept_in_turn}
use Rattle.replica_rules.specs.Voting.{with_vote, with_claim}
use Rattle.replica_rules.specs.Nodes.{Memory, NodeState, stands_for, base_held, open_parts, all_tried, memory_of, open_base, loaded_as}
use Rattle.replica_rules.specs.Rules.{Turn, Plan, quiet, plan_of, ignored, told_client, in_session, then_claims, part_answered, by_part, by_ask, dumped, by_dump, with_leader, by_vote, fold_number, folds, after_fold, then_fold, by_claim, by_tick, is_carried, by_gather, same_record, says_staged, staged, staged_again, staged_whole, staged_from, staged_anew, is_staged_here, by_stage, says_switched, switched, by_switch, from_client, from_node, is_node, from_result, Input, Receives, Ticks, planned, handled}
use Rattle.replica_rules.proofs.Turns.{IsAdded}
use Rattle.replica_rules.proofs.Keeping.{OfMemory, OfChange, OfResult, OfPlan, planned_of}
use Rattle.list_lemmas.proofs.Each.{either_way, any_way, all_both, all_map, all_each, all_then, all_filter, all_zip}
use Rattle.list_lemmas.proofs.Members.{all_among, among_all, among_map, among_filter, find_among}
use Rattle.list_lemmas.proofs.SameRoots.{same_roots}
use Rattle.list_lemmas.proofs.Tests.{by_bool, way_with, and_left, and_right}
use Rattle.law_lemmas.proofs.Numbered.{IsSized, length-contents_after}
use Rattle.law_lemmas.proofs.Owned.{IsOwn, IsTold, told, own_part, own_of, known-session}
use Rattle.law_lemmas.proofs.Regional.{length-blocks_in}
use Rattle.law_lemmas.proofs.Settled.{EachKnown}
use Rattle.law_handed.proofs.Staying.{base_session, gone_session}
use Rattle.law_history.proofs.Chosen.{HasContents}
use Rattle.law_answers.specs.Turning.{IsInTurn, TurnsTo, BringsPart}
use Rattle.law_answers.proofs.Parts.{handled_turns}
use Rattle.law_reads.specs.Chained.{IsViewOf}
use Rattle.law_reads.proofs.Sessions.{session_chain}
use Rattle.law_served.proofs.Bases.{IsRightBase, IsBrought, base_view}

-- ---- what a node stands by

-- the bases of later sessions are right, and no part is of a later session
pub record HoldsLater (shape : Shape) (key : List ℕ) (judge : Judge) (g : ℕ) (held : Held) : Type 0 where
  pub bases : (base : Base) → IsAmong base held.bases → held.session < base.rec.header.session → IsRightBase shape key judge g base
  pub parts : AllByRecursion (λ rec. rec.header.session ≤ held.session) held.parts

-- it has the open session in memory, which is known, and its replica is in its turn
pub record Stands (shape : Shape) (key : List ℕ) (judge : Judge) (g : ℕ) (held : Held) (memory : Option Memory) : Type 0 where
  pub m : Memory
  pub there : memory ≡ Some m
  pub session : m.replica.session ≡ held.session
  pub known : Session
  pub at : known_at judge held.session ≡ Some known
  pub turn : IsInTurn (IsPartOf shape key known g) (IsViewOf shape known g) m.replica
  pub later : HoldsLater shape key judge g held

-- ---- what is handed to it

abbrev pub MessageFits : Shape → List ℕ → Judge → Message → Type 0
MessageFits shape key judge (message.Part m) = IsTagged shape key judge m.rec
MessageFits shape key judge (message.Stage m) = IsBrought shape key judge m.base
MessageFits shape key judge other = Unit {0}

abbrev pub InputFits : Shape → List ℕ → Judge → Input → Type 0
InputFits shape key judge (Receives sender.Client bytes) = (m : Message) → message_at bytes ≡ Ok m → MessageFits shape key judge m
InputFits shape key judge (Receives (sender.Node name) bytes) = Unit {0}
InputFits shape key judge Ticks = Unit {0}

abbrev pub BringsSwitch : Input → ℕ → Type 0
BringsSwitch (Receives sender.Client bytes) e = message_at bytes ≡ Ok (message.Switch (record { session = e }))
BringsSwitch (Receives (sender.Node name) bytes) e = ⊥
BringsSwitch Ticks e = ⊥

-- ---- small facts

module _ {A : Type 0} (test keep : A → Bool) (both : (x : A) → test x ≡ true → keep x ≡ true) where
  find_kept : (xs : List A) → find test (filter keep xs) ≡ find test xs
  find_kept [] = refl
  find_kept (x ∷ xs) =
      by_bool (keep x) (find test (filter keep (x ∷ xs)) ≡ find test (x ∷ xs))
      (λ pass. ap (λ (t : Bool). find test (if t then x ∷ filter keep xs else filter keep xs)) pass ∙ ap (λ (o : Option A). if test x then Some x else o) (find_kept xs))
      (λ drop.
      let fails : test x ≡ false = by_bool (test x) (test x ≡ false) (λ hit. absurd (true≢false (sym (both x hit) ∙ drop))) (λ miss. miss) in
      ap (λ (t : Bool). find test (if t then x ∷ filter keep xs else filter keep xs)) drop ∙ (find_kept xs ∙ sym (ap (λ (t : Bool). if t then Some x else find test xs) fails)))

none_pass : {A : Type 0} (test : A → Bool) (xs : List A) → AllByRecursion (λ x. test x ≡ false) xs → filter test xs ≡ []
none_pass test [] all = refl
none_pass test (x ∷ xs) all = ap (λ (t : Bool). if t then x ∷ filter test xs else filter test xs) all.0 ∙ none_pass test xs all.1

one_only : (b base : Base) → IsAmong b (base ∷ []) → b ≡ base
one_only b base (inl same) = same
one_only b base (inr none) = absurd none

-- ---- a node that was loaded with the base of its session alone

module _ (shape : Shape) (key : List ℕ) (judge : Judge) (sized : EachKnown judge (IsSized shape)) (g : ℕ) where
  pub loaded_stands : (held : Held) (base : Base) → 0 < held.session → base_held shape g held.session held ≡ Some base → open_parts held ≡ [] → (known : Session) → known_at judge held.session ≡ Some known
      → IsOwn shape key known g base.rec → base.blocks ≡ blocks_in shape (contents_after known base.rec.header.seq) g → HoldsLater shape key judge g held → Stands shape key judge g held (loaded_as shape g held).memory
  unfolding loaded_as all_tried
  loaded_stands held base some found empty known at own blocks later =
      let zero_not : (held.session == 0) ≡ false = ne_eqb held.session 0 (λ is. omega (arith, some, is)) in
      let opens : open_base shape g held ≡ Some base = ap (λ (t : Bool). if t then None else base_held shape g held.session held) zero_not ∙ found in
      record {
        m = memory_of shape g held base;
        there = ap (λ (o : Option Base). option_map (λ b. memory_of shape g held b) o) opens;
        session = refl;
        known = known;
        at = at;
        turn = record {
          view = subst (λ (l : List Record). IsViewOf shape known g (all_tried shape g (view_of_base base) l).view) (sym empty) (base_view shape key known (sized known held.session at) g base own blocks);
          early = tt;
        };
        later = later;
      }

module _ (shape : Shape) (key : List ℕ) (judge : Judge) (sized : EachKnown judge (IsSized shape)) (strings : List (List ℕ)) (none : NoTwoCollide strings) (has : EachKnown judge (HasContents shape strings)) (g : ℕ)
    (inside : g < regions shape) where
  abbrev Later : Held → Type 0
  Later held = HoldsLater shape key judge g held

  -- ---- through the changes of an open session

  -- a part of the session is added, or parts are folded
  abbrev IsKept : ℕ → Change → Type 0
  IsKept s (AddsPart rec) = rec.header.session ≤ s
  IsKept s (AddsBase base) = ⊥
  IsKept s (SwitchesTo e) = ⊥
  IsKept s (FoldsTo n) = Unit {0}

  fold_later : (held : Held) (n : ℕ) (gone : List Record) → Later held → Later (folded shape held n gone)
  fold_later held n [] later = later
  fold_later held n (first ∷ rest) later = record {
    bases = λ base among up.
        elim (among_either base (map (λ b. base_after_all shape b (filter (λ rec. is_folded held n rec) held.parts)) (filter (λ b. is_open_base held b) held.bases)) (filter (λ b. nat_lt held.session b.rec.header.session) held.bases) among) [
          | inl open_one ↦
              let made = among_map (λ b. base_after_all shape b (filter (λ rec. is_folded held n rec) held.parts)) base (filter (λ b. is_open_base held b) held.bases) open_one in
              let was = among_filter (λ b. is_open_base held b) made.0 held.bases made.1 in
              let same : base.rec.header.session ≡ held.session =
              ap (λ (b : Base). b.rec.header.session) made.2
              ∙ base_session shape held.session made.0 (filter (λ rec. is_folded held n rec) held.parts) (eqb-true made.0.rec.header.session held.session was.1) (gone_session shape held n) in
              absurd (omega (arith, same, up))
          | inr later_one ↦ later.bases base (among_filter (λ b. nat_lt held.session b.rec.header.session) base held.bases later_one).0 up
        ];
    parts = all_filter (λ rec. rec.header.session ≤ held.session) _ held.parts later.parts;
  }

  fold_session : (held : Held) (n : ℕ) (gone : List Record) → (folded shape held n gone).session ≡ held.session
  fold_session held n [] = refl
  fold_session held n (first ∷ rest) = refl

  record Stays (held after : Held) : Type 0 where
    same : after.session ≡ held.session
    later : Later after

  change_stays : (held : Held) (change : Change) → IsKept held.session change → Later held → Stays held (changed shape held change)
  unfolding changed
  change_stays held (AddsPart rec) low later =
      record { same = refl; later = record { bases = later.bases; parts = all_both (λ r. r.header.session ≤ held.session) held.parts (rec ∷ []) later.parts (low, tt) } }
  change_stays held (AddsBase base) low later = absurd low
  change_stays held (SwitchesTo e) low later = absurd low
  change_stays held (FoldsTo n) low later =
      record { same = fold_session held n (filter (λ rec. is_folded held n rec) held.parts); later = fold_later held n (filter (λ rec. is_folded held n rec) held.parts) later }

  changes_stay : (s : ℕ) (held : Held) (changes : List Change) → held.session ≡ s → AllByRecursion (IsKept s) changes → Later held → Stays held (after_changes shape held changes)
  unfolding after_changes
  changes_stay s held [] is all later = record { same = refl; later = later }
  changes_stay s held (change ∷ changes) is all later =
      let one : Stays held (changed shape held change) = change_stays held change (subst (λ (n : ℕ). IsKept n change) (sym is) all.0) later in
      let rest = changes_stay s (changed shape held change) changes (one.same ∙ is) all.1 one.later in
      record { same = rest.same ∙ one.same; later = rest.later }

  -- ---- a handling

  module _ (node : NodeState) (s : Stands shape key judge g node.held node.memory) where
    abbrev m : Memory
    m = s.m

    abbrev r : Replica
    r = s.m.replica

    abbrev now : ℕ
    now = node.held.session

    -- the session stays, or the node switches to one that it holds a base of
    record Keeps (plan : Plan) : Type 0 where
      same : (after_changes shape node.held plan.changes).session ≡ now
      later : Later (after_changes shape node.held plan.changes)

    record Switching (input : Input) (plan : Plan) : Type 0 where
      e : ℕ
      brings : BringsSwitch input e
      up : now < e
      base : Base
      found : base_held shape g e node.held ≡ Some base
      is : plan ≡ switched shape g node e

    abbrev Kind : Input → Plan → Type 0
    Kind input plan = Keeps plan ⊎ Switching input plan

    nothing : (plan : Plan) → plan.changes ≡ [] → Keeps plan
    unfolding after_changes
    nothing plan same = subst (λ (l : List Change). Keeps (record plan { changes = l })) (sym same) (record { same = refl; later = s.later })

    by_turn : (t : Turn) → AllByRecursion (IsKept now) t.changes → Keeps (plan_of t)
    by_turn t all = let stays = changes_stay now node.held t.changes refl all s.later in record { same = stays.same; later = stays.later }

    in_session_keeps : (rule : Memory → Turn) → ((k : Memory) → k ≡ m → AllByRecursion (IsKept now) (rule k).changes) → Keeps (in_session node rule)
    in_session_keeps rule each =
        subst (λ (o : Option Memory). Keeps (option_map_or (λ k. plan_of (rule k)) o (ignored node))) (sym s.there) (by_turn (rule m) (each m refl))

    -- ---- the rules of an open session

    abbrev Added : Turn → Type 0
    Added t = AllByRecursion IsAdded t.changes

    answered_added : (rec : Record) (q : Replica) (answer : PartAnswer) → Added (part_answered shape g m rec q answer)
    answered_added rec q Next = all_map IsAdded (λ k. AddsPart k) (after_part rec (all_kept_in_turn shape q)).parts (all_each (λ k. Unit {0}) (after_part rec (all_kept_in_turn shape q)).parts (λ k. tt))
    answered_added rec q Known = tt
    answered_added rec q Early = tt
    answered_added rec q Foreign = tt
    answered_added rec q Full = tt
    answered_added rec q (Differs root got) = tt

    part_added : (rec : Record) → Added (by_part shape g rec m)
    unfolding by_part
    part_added rec = answered_added rec (take_part shape g r rec).replica (take_part shape g r rec).answer

    -- a part of another session changes nothing
    foreign_none : (rec : Record) → is_for shape g r rec ≡ false → (by_part shape g rec m).changes ≡ []
    unfolding by_part take_part
    foreign_none rec other =
        ap (λ (t : Bool). (part_answered shape g m rec (taken t).replica (taken t).answer).changes) other
      where
        taken : Bool → PartTaken
        taken t = if not t then left_as r Foreign else (if nat_le rec.header.seq r.view.number then left_as r Known else (if rec.header.previous == r.view.number then tried shape r rec else kept_early r rec))

    low_early : OfMemory (λ rec. rec.header.session ≤ now) node.memory
    low_early =
        subst (λ (o : Option Memory). OfMemory (λ rec. rec.header.session ≤ now) o) (sym s.there)
        (all_then (λ rec. IsPartOf shape key s.known g rec × (r.view.number < rec.header.previous)) (λ rec. rec.header.session ≤ now)
        (λ rec of.
        let header : IsTold shape s.known g rec.header = told shape key s.known (sized s.known now s.at) g rec (inl of.0) in
        let session : rec.header.session ≡ s.known.session = header.session in
        let number : s.known.session ≡ now = known-session judge now s.known s.at in
        omega (arith, session, number)) r.early s.turn.early)

    kept_of : (change : Change) → IsAdded change × OfChange (λ rec. rec.header.session ≤ now) change → IsKept now change
    kept_of (AddsPart rec) of = of.1
    kept_of (AddsBase base) of = absurd of.0
    kept_of (SwitchesTo e) of = absurd of.0
    kept_of (FoldsTo n) of = tt

    part_keeps : (bytes : List ℕ) (rec : Record) → message_at bytes ≡ Ok (message.Part (record { rec = rec })) → Keeps (in_session node (by_part shape g rec))
    unfolding planned
    part_keeps bytes rec read =
        by_bool (is_for shape g r rec) (Keeps (in_session node (by_part shape g rec)))
        (λ mine.
        let session : rec.header.session ≡ r.session = eqb-true rec.header.session r.session (and_left (rec.header.session == r.session) _ (and_left ((rec.header.session == r.session) && (rec.header.region == g)) (has_right_shape shape g rec) mine)) in
        let stays : r.session ≡ now = s.session in
        let low : rec.header.session ≤ now = omega (arith, session, stays) in
        let all : OfPlan (λ rec. rec.header.session ≤ now) (planned shape g node (Receives sender.Client bytes)) =
        planned_of (λ rec. rec.header.session ≤ now) shape g node (Receives sender.Client bytes) low_early (subst (λ (x : Result Message MessageError). OfResult (λ rec. rec.header.session ≤ now) sender.Client x) (sym read) low) in
        let here : OfPlan (λ rec. rec.header.session ≤ now) (option_map_or (λ k. plan_of (by_part shape g rec k)) node.memory (ignored node)) =
        subst (λ (x : Result Message MessageError). OfPlan (λ rec. rec.header.session ≤ now) (from_result shape g node sender.Client x)) read all in
        let mine_only : OfPlan (λ rec. rec.header.session ≤ now) (plan_of (by_part shape g rec m)) =
        subst (λ (o : Option Memory). OfPlan (λ rec. rec.header.session ≤ now) (option_map_or (λ k. plan_of (by_part shape g rec k)) o (ignored node))) s.there here in
        subst (λ (o : Option Memory). Keeps (option_map_or (λ k. plan_of (by_part shape g rec k)) o (ignored node))) (sym s.there)
        (by_turn (by_part shape g rec m)
        (all_then (λ c. IsAdded c × OfChange (λ rec. rec.header.session ≤ now) c) (IsKept now) kept_of (by_part shape g rec m).changes
        (all_zip IsAdded (OfChange (λ rec. rec.header.session ≤ now)) (by_part shape g rec m).changes (part_added rec) mine_only.changes))))
        (λ other.
        subst (λ (o : Option Memory). Keeps (option_map_or (λ k. plan_of (by_part shape g rec k)) o (ignored node))) (sym s.there)
        (nothing (plan_of (by_part shape g rec m)) (foreign_none rec other)))

    ask_kept : (ask : Ask) (k : Memory) → AllByRecursion (IsKept now) (by_ask shape g ask k).changes
    unfolding by_ask
    ask_kept ask k = tt

    dump_kept : (dump : Dump) (k : Memory) → AllByRecursion (IsKept now) (by_dump g dump k).changes
    unfolding by_dump
    dump_kept dump k = either_way ((dump.session == k.replica.session) && (dump.region == g)) (dumped g k) (quiet k) (λ (t : Turn). AllByRecursion (IsKept now) t.changes) tt tt

    vote_kept : (name : NodeName) (vote : Prepared) (k : Memory) → AllByRecursion (IsKept now) (by_vote shape name vote k).changes
    unfolding by_vote
    vote_kept name vote k =
        either_way ((vote.session == k.replica.session) && (vote.region == name.region)) (then_claims shape (quiet (with_leader k (record k.leader { votes = with_vote k.leader.votes name vote.seq vote.root })))) (quiet k)
        (λ (t : Turn). AllByRecursion (IsKept now) t.changes) tt tt

    claim_kept : (name : NodeName) (claim : Committed) (k : Memory) → AllByRecursion (IsKept now) (by_claim shape name claim k).changes
    unfolding by_claim
    claim_kept name claim k =
        let turn : Turn = then_claims shape (quiet (with_leader k (record k.leader { claims = with_claim k.leader.claims name claim.front }))) in
        let n : ℕ = fold_number shape turn.memory in
        either_way (claim.session == k.replica.session) (then_fold shape turn) (quiet k) (λ (t : Turn). AllByRecursion (IsKept now) t.changes)
        (either_way (folds shape turn.memory) (record { memory = after_fold turn.memory n; outs = turn.outs; changes = turn.changes ++ FoldsTo n ∷ [] }) turn (λ (t : Turn). AllByRecursion (IsKept now) t.changes) (tt, tt) tt) tt

    tick_kept : (k : Memory) → AllByRecursion (IsKept now) (by_tick shape k).changes
    unfolding by_tick
    tick_kept k = tt

    gather_keeps : (e : ℕ) → Keeps (by_gather node e)
    unfolding by_gather
    gather_keeps e =
        either_way (is_carried node.held) (told_client node (message.Gathered (record { session = e; held = node.held }))) (ignored node) Keeps
        (nothing (told_client node (message.Gathered (record { session = e; held = node.held }))) refl) (nothing (ignored node) refl)

    -- ---- a base is staged

    stored_keeps : (rec : Record) (blocks : List (List ℕ)) → IsRightBase shape key judge g (record { rec = rec; blocks = blocks }) → Keeps (staged node rec blocks)
    unfolding after_changes changed
    stored_keeps rec blocks right =
        let new : Base = record { rec = rec; blocks = blocks } in
        record {
          same = refl;
          later = record {
            bases = λ base among up. elim (among_either base node.held.bases (new ∷ []) among) [
              | inl old ↦ s.later.bases base old up
              | inr last ↦ subst (λ (b : Base). IsRightBase shape key judge g b) (sym (one_only base new last)) right
            ];
            parts = s.later.parts;
          };
        }

    module _ (base : Base) (brought : IsBrought shape key judge base) (here : base.rec.header.region ≡ g) where
      region : brought.g ≡ g
      region = sym (told shape key brought.known (sized brought.known base.rec.header.session brought.at) brought.g base.rec brought.own).region ∙ here

      own : IsOwn shape key brought.known g base.rec
      own = subst (λ (i : ℕ). IsOwn shape key brought.known i base.rec) region brought.own

      whole_keeps : (length base.blocks == 0) ≡ false → Keeps (staged_whole shape node base)
      whole_keeps some =
          either_way (has_shape shape base.blocks && bytes_eq (root_of shape.height base.blocks) base.rec.header.root) (staged node base.rec base.blocks) (ignored node) Keeps
          (elim brought.blocks [
            | inl empty ↦ absurd (true≢false (sym (ap (λ (l : List (List ℕ)). length l == 0) empty) ∙ some))
            | inr same ↦ stored_keeps base.rec base.blocks (record {
              known = brought.known;
              at = brought.at;
              own = own;
              blocks = same ∙ ap (λ (i : ℕ). blocks_in shape (contents_after brought.known base.rec.header.seq) i) region;
            })
          ])
          (nothing (ignored node) refl)

      -- the view's blocks are those that its record names
      view_right : bytes_eq (view_root shape r.view) base.rec.header.root ≡ true → IsRightBase shape key judge g (record { rec = base.rec; blocks = r.view.blocks })
      view_right hit =
          let v : IsViewOf shape s.known g r.view = s.turn.view in
          let known : Session = brought.known in
          let header : IsTold shape known g base.rec.header = told shape key known (sized known base.rec.header.session brought.at) g base.rec own in
          let mine : List (List ℕ) = blocks_in shape (contents_after s.known v.x) g in
          let named : List (List ℕ) = blocks_in shape (contents_after known base.rec.header.seq) g in
          let roots : root_of shape.height mine ≡ root_of shape.height named =
          ap (root_of shape.height) (sym v.blocks) ∙ ((bytes_eq-Decides (view_root shape r.view) base.rec.header.root).0 hit ∙ header.root) in
          let same : mine ≡ named =
          same_roots strings none shape.height mine named (length-blocks_in shape (contents_after s.known v.x) g (length-contents_after shape s.known (sized s.known now s.at) v.x) inside)
          (length-blocks_in shape (contents_after known base.rec.header.seq) g (length-contents_after shape known (sized known base.rec.header.session brought.at) base.rec.header.seq) inside)
          (λ x among. has s.known now s.at v.x g x v.within inside among)
          (λ x among. has known base.rec.header.session brought.at base.rec.header.seq g x header.within inside among) roots in
          record { known = known; at = brought.at; own = own; blocks = v.blocks ∙ same }

      anew_keeps : Keeps (staged_anew shape node base)
      anew_keeps =
          way_with (length base.blocks == 0) (option_map_or (λ k. staged_from shape node base.rec k) node.memory (ignored node)) (staged_whole shape node base) Keeps
          (λ empty. subst (λ (o : Option Memory). Keeps (option_map_or (λ k. staged_from shape node base.rec k) o (ignored node))) (sym s.there)
          (way_with (bytes_eq (view_root shape r.view) base.rec.header.root) (staged node base.rec r.view.blocks) (ignored node) Keeps
          (λ hit. stored_keeps base.rec r.view.blocks (view_right hit)) (λ miss. nothing (ignored node) refl)))
          whole_keeps

    stage_keeps : (base : Base) → IsBrought shape key judge base → Keeps (by_stage shape g node base)
    unfolding by_stage
    stage_keeps base brought =
        let e : ℕ = base.rec.header.session in
        way_with (is_staged_here g node base.rec.header) (option_map_or (λ old. staged_again node base.rec old) (base_held shape g e node.held) (staged_anew shape node base)) (ignored node) Keeps
        (λ is.
        any_way Keeps (λ old. staged_again node base.rec old) (staged_anew shape node base) (base_held shape g e node.held)
        (λ old. either_way (same_record old.rec base.rec) (says_staged node e) (ignored node) Keeps (nothing (says_staged node e) refl) (nothing (ignored node) refl))
        (anew_keeps base brought (eqb-true base.rec.header.region g (and_right (nat_lt node.held.session e) (base.rec.header.region == g) is))))
        (λ other. nothing (ignored node) refl)

    -- ---- a switch

    switch_kind : (bytes : List ℕ) (e : ℕ) → message_at bytes ≡ Ok (message.Switch (record { session = e })) → Kind (Receives sender.Client bytes) (by_switch shape g node e)
    unfolding by_switch
    switch_kind bytes e read =
        let P : Plan → Type 0 = Kind (Receives sender.Client bytes) in
        either_way (e == now) (says_switched node e) (if nat_lt now e then option_map_or (λ base. switched shape g node e) (base_held shape g e node.held) (ignored node) else ignored node) P
        (inl (nothing (says_switched node e) refl))
        (way_with (nat_lt now e) (option_map_or (λ base. switched shape g node e) (base_held shape g e node.held) (ignored node)) (ignored node) P
        (λ up. by (base_held shape g e node.held) refl (ltb-true now e up))
        (λ _. inl (nothing (ignored node) refl)))
      where
        by : (o : Option Base) → base_held shape g e node.held ≡ o → now < e → Kind (Receives sender.Client bytes) (option_map_or (λ base. switched shape g node e) o (ignored node))
        by None found up = inl (nothing (ignored node) refl)
        by (Some base) found up = inr (record { e = e; brings = read; up = up; base = base; found = found; is = refl })

    -- ---- every input

    client_kind : (bytes : List ℕ) (x : Message) → message_at bytes ≡ Ok x → MessageFits shape key judge x → Kind (Receives sender.Client bytes) (from_client shape g node x)
    client_kind bytes (message.Part p) read fits = inl (part_keeps bytes p.rec read)
    client_kind bytes (message.Ask a) read fits = inl (in_session_keeps (by_ask shape g a) (λ k is. ask_kept a k))
    client_kind bytes (message.Dump d) read fits = inl (in_session_keeps (by_dump g d) (λ k is. dump_kept d k))
    client_kind bytes (message.Gather x) read fits = inl (gather_keeps x.session)
    client_kind bytes (message.Stage x) read fits = inl (stage_keeps x.base fits)
    client_kind bytes (message.Switch x) read fits = switch_kind bytes x.session read
    client_kind bytes (message.Prepared x) read fits = inl (nothing (ignored node) refl)
    client_kind bytes (message.Committed x) read fits = inl (nothing (ignored node) refl)
    client_kind bytes (message.Answer x) read fits = inl (nothing (ignored node) refl)
    client_kind bytes (message.Gathered x) read fits = inl (nothing (ignored node) refl)
    client_kind bytes (message.Staged x) read fits = inl (nothing (ignored node) refl)
    client_kind bytes (message.Switched x) read fits = inl (nothing (ignored node) refl)
    client_kind bytes (message.Dumped x) read fits = inl (nothing (ignored node) refl)

    node_keeps : (name : NodeName) (x : Message) → Keeps (from_node shape node name x)
    node_keeps name (message.Prepared v) = in_session_keeps (by_vote shape name v) (λ k is. vote_kept name v k)
    node_keeps name (message.Committed c) = in_session_keeps (by_claim shape name c) (λ k is. claim_kept name c k)
    node_keeps name (message.Part x) = nothing (ignored node) refl
    node_keeps name (message.Ask x) = nothing (ignored node) refl
    node_keeps name (message.Answer x) = nothing (ignored node) refl
    node_keeps name (message.Gather x) = nothing (ignored node) refl
    node_keeps name (message.Gathered x) = nothing (ignored node) refl
    node_keeps name (message.Stage x) = nothing (ignored node) refl
    node_keeps name (message.Staged x) = nothing (ignored node) refl
    node_keeps name (message.Switch x) = nothing (ignored node) refl
    node_keeps name (message.Switched x) = nothing (ignored node) refl
    node_keeps name (message.Dump x) = nothing (ignored node) refl
    node_keeps name (message.Dumped x) = nothing (ignored node) refl

    result_kind : (from : Sender) (bytes : List ℕ) (x : Result Message MessageError) → message_at bytes ≡ x → InputFits shape key judge (Receives from bytes) → Kind (Receives from bytes) (from_result shape g node from x)
    result_kind sender.Client bytes (Ok x) read fits = client_kind bytes x read (fits x read)
    result_kind (sender.Node name) bytes (Ok x) read fits = inl (either_way (is_node shape name) (from_node shape node name x) (ignored node) Keeps (node_keeps name x) (nothing (ignored node) refl))
    result_kind sender.Client bytes (Err e) read fits = inl (nothing (ignored node) refl)
    result_kind (sender.Node name) bytes (Err e) read fits = inl (nothing (ignored node) refl)

    kind_of : (input : Input) → InputFits shape key judge input → Kind input (planned shape g node input)
    unfolding planned
    kind_of (Receives from bytes) fits = result_kind from bytes (message_at bytes) refl fits
    kind_of Ticks fits = inl (in_session_keeps (by_tick shape) (λ k is. tick_kept k))

    -- ---- the node after it

    -- a part of the session that comes is one of its parts
    pub brought_part : (input : Input) → InputFits shape key judge input → (rec : Record) → BringsPart input rec → is_for shape g r rec ≡ true → IsPartOf shape key s.known g rec
    unfolding has_right_shape
    brought_part (Receives sender.Client bytes) fits rec brings mine =
        let front = and_left ((rec.header.session == r.session) && (rec.header.region == g)) (has_right_shape shape g rec) mine in
        let shaped : has_right_shape shape g rec ≡ true = and_right ((rec.header.session == r.session) && (rec.header.region == g)) (has_right_shape shape g rec) mine in
        let full : has_content rec.writes rec.run ≡ true = and_right (header_is_right shape g rec.header) (has_content rec.writes rec.run) (and_left (header_is_right shape g rec.header && has_content rec.writes rec.run) (record_fits shape rec) shaped) in
        let of : is_of now g rec.header ≡ true = ap (λ (n : ℕ). (rec.header.session == n) && (rec.header.region == g)) (sym s.session) ∙ front in
        own_part shape key s.known (sized s.known now s.at) g rec (own_of shape key judge s.known now g rec s.at (sized s.known now s.at) sized of (fits (message.Part (record { rec = rec })) brings)) full
    brought_part (Receives (sender.Node name) bytes) fits rec brings mine = absurd brings
    brought_part Ticks fits rec brings mine = absurd brings

    pub record Steps (input : Input) : Type 0 where
      pub rises : now ≤ (handled shape g node input).node.held.session
      pub stands : Stands shape key judge g (handled shape g node input).node.held (handled shape g node input).node.memory
      pub session : ((handled shape g node input).node.held.session ≡ now) ⊎ ((e : ℕ) × BringsSwitch input e × ((handled shape g node input).node.held.session ≡ e))

    stays_on : (input : Input) → InputFits shape key judge input → Keeps (planned shape g node input) → Steps input
    stays_on input fits keeps =
        let turns : TurnsTo (IsPartOf shape key s.known g) (IsViewOf shape s.known g) r (handled shape g node input).node.memory =
        handled_turns shape (IsPartOf shape key s.known g) (IsViewOf shape s.known g) (session_chain shape key s.known (sized s.known now s.at) g inside) g node input m s.there s.turn (brought_part input fits) keeps.same in
        let same : (handled shape g node input).node.held.session ≡ now = keeps.same in
        record {
          rises = omega (arith, same);
          stands = record {
            m = turns.m;
            there = turns.is;
            session = turns.on.session ∙ (s.session ∙ sym keeps.same);
            known = s.known;
            at = ap (known_at judge) keeps.same ∙ s.at;
            turn = turns.turn;
            later = keeps.later;
          };
          session = inl keeps.same;
        }

    -- what is held after a switch
    switch_later : (e : ℕ) → now < e → Later (changed shape node.held (SwitchesTo e))
    unfolding changed
    switch_later e up = record {
      bases = λ base among over. s.later.bases base (among_filter (λ b. nat_le e b.rec.header.session) base node.held.bases among).0 (omega (arith, up, over));
      parts = all_among (λ rec. rec.header.session ≤ e) _ (λ rec among.
          let was = among_filter (λ k. nat_le e k.header.session) rec node.held.parts among in
          let low : rec.header.session ≤ now = among_all (λ k. k.header.session ≤ now) node.held.parts rec was.0 s.later.parts in
          omega (arith, low, up));
    }

    switch_empty : (e : ℕ) → now < e → open_parts (changed shape node.held (SwitchesTo e)) ≡ []
    unfolding changed
    switch_empty e up =
        none_pass (λ rec. rec.header.session == e) (filter (λ rec. nat_le e rec.header.session) node.held.parts)
        (all_filter (λ rec. (rec.header.session == e) ≡ false) (λ rec. nat_le e rec.header.session) node.held.parts
        (all_then (λ rec. rec.header.session ≤ now) (λ rec. (rec.header.session == e) ≡ false) (λ rec low. ne_eqb rec.header.session e (λ is. omega (arith, low, up, is))) node.held.parts s.later.parts))

    switch_found : (e : ℕ) → base_held shape g e (changed shape node.held (SwitchesTo e)) ≡ base_held shape g e node.held
    unfolding changed
    switch_found e =
        find_kept (λ base. stands_for shape g e base) (λ base. nat_le e base.rec.header.session)
        (λ base hit.
        let of : (base.rec.header.session == e) ≡ true = and_left (base.rec.header.session == e) (base.rec.header.region == g) (and_left (is_of e g base.rec.header) (has_shape shape base.blocks) hit) in
        let same : base.rec.header.session ≡ e = eqb-true base.rec.header.session e of in
        le-leb e base.rec.header.session (omega (arith, same))) node.held.bases

    switch_session : (e : ℕ) → (changed shape node.held (SwitchesTo e)).session ≡ e
    unfolding changed
    switch_session e = refl

    switch_stands : (input : Input) (w : Switching input (planned shape g node input)) → Stands shape key judge g (changed shape node.held (SwitchesTo w.e)) (loaded_as shape g (changed shape node.held (SwitchesTo w.e))).memory
    switch_stands input w =
        let held : Held = changed shape node.held (SwitchesTo w.e) in
        let is : held.session ≡ w.e = switch_session w.e in
        let up : now < w.e = w.up in
        let there = find_among (λ base. stands_for shape g w.e base) w.base node.held.bases w.found in
        let mine : (w.base.rec.header.session == w.e) ≡ true =
        and_left (w.base.rec.header.session == w.e) (w.base.rec.header.region == g) (and_left (is_of w.e g w.base.rec.header) (has_shape shape w.base.blocks) there.1) in
        let same : w.base.rec.header.session ≡ w.e = eqb-true w.base.rec.header.session w.e mine in
        let right : IsRightBase shape key judge g w.base = s.later.bases w.base there.0 (omega (arith, same, up)) in
        loaded_stands shape key judge sized g held w.base (omega (arith, is, up)) (ap (λ (n : ℕ). base_held shape g n held) is ∙ (switch_found w.e ∙ w.found)) (switch_empty w.e w.up) right.known
        (ap (known_at judge) (is ∙ sym same) ∙ right.at) right.own right.blocks (switch_later w.e w.up)

    switch_on : (input : Input) → Switching input (planned shape g node input) → Steps input
    unfolding after_changes
    switch_on input w =
        let up : now < w.e = w.up in
        let to : (handled shape g node input).node.held.session ≡ w.e = ap (λ (plan : Plan). (after_changes shape node.held plan.changes).session) w.is ∙ switch_session w.e in
        record {
          rises = omega (arith, up, to);
          stands = subst (λ (plan : Plan). Stands shape key judge g (after_changes shape node.held plan.changes) plan.memory) (sym w.is) (switch_stands input w);
          session = inr (w.e, w.brings, to);
        }

    -- The node stands after it as before.
    pub steps : (input : Input) → InputFits shape key judge input → Steps input
    steps input fits = elim (kind_of input fits) [
      | inl keeps ↦ stays_on input fits keeps
      | inr w ↦ switch_on input w
    ]
