-- The bases of later sessions that a node holds are as they were staged: without writes.
use Rattle.std.proofs.Common.{◌≡◌, ◌∙◌, ◌⊎◌, inl, inr, ℕ, ◌<◌, ◌==◌, ◌&&◌, nat_le, nat_lt, false, if◌then◌else◌, List, [], ◌∷◌, ◌++◌, length, map, bytes_eq, refl, sym, ap, subst, arith, eqb-true}
use Rattle.std.specs.Prelude.{filter, Result, Ok, Err}
use Rattle.std.specs.Option.{option_map_or}
use Rattle.std.specs.List.{AllByRecursion}
use Rattle.std.proofs.lemmas.Bool.{ltb-true}
use Rattle.salus_types.specs.Volume.{Shape}
use Rattle.salus_types.specs.declared.names.NodeName.{NodeName}
use Rattle.salus_types.specs.declared.names.Sender.{Sender}
use Rattle.salus_types.specs.declared.names.Sender.TheVariants as sender
use Rattle.salus_types.specs.declared.records.Record.{Record}
use Rattle.salus_types.specs.declared.records.Base.{Base}
use Rattle.salus_types.specs.declared.records.Held.{Held}
use Rattle.salus_message.specs.declared.carried.Stage.{Stage}
use Rattle.salus_message.specs.declared.small.Prepared.{Prepared}
use Rattle.salus_message.specs.declared.small.Committed.{Committed}
use Rattle.salus_message.specs.declared.small.Ask.{Ask}
use Rattle.salus_message.specs.declared.small.Dump.{Dump}
use Rattle.salus_message.specs.declared.wire.Message.{Message}
use Rattle.salus_message.specs.declared.wire.Message.TheVariants as message
use Rattle.salus_message.specs.declared.wire.MessageError.{MessageError}
use Rattle.salus_message.specs.Reading.{message_at}
use Rattle.merkle_region.specs.Tree.{root_of, IsAmong}
use Rattle.merkle_region.proofs.Membership.{among_either}
use Rattle.holding_model.specs.Fitting.{has_content, has_shape}
use Rattle.holding_model.specs.Changing.{Change, AddsPart, AddsBase, SwitchesTo, FoldsTo, is_folded, is_open_base, base_after_all, folded, changed, after_changes}
use Rattle.replica_rules.specs.Views.{view_root}
use Rattle.replica_rules.specs.Replicas.{Replica, PartAnswer, Foreign, Known, Early, Full, Differs, Next, take_part, after_part, all_kept_in_turn}
use Rattle.replica_rules.specs.Voting.{with_vote, with_claim}
use Rattle.replica_rules.specs.Nodes.{Memory, NodeState, base_held}
use Rattle.replica_rules.specs.Rules.{Turn, Plan, quiet, plan_of, ignored, told_client, in_session, then_claims, part_answered, by_part, by_ask, dumped, by_dump, with_leader, by_vote, fold_number, folds, after_fold, then_fold, by_claim, by_tick, is_carried, by_gather, same_record, says_staged, staged, staged_again, staged_whole, staged_from, staged_anew, is_staged_here, by_stage, says_switched, switched, by_switch, from_client, from_node, is_node, from_result, Input, Receives, Ticks, planned, handled}
use Rattle.list_lemmas.proofs.Each.{either_way, any_way, all_map, all_each}
use Rattle.list_lemmas.proofs.Members.{among_map, among_filter}
use Rattle.list_lemmas.proofs.Tests.{way_with}
use Rattle.law_handed.proofs.Staying.{base_session, gone_session}
use Rattle.law_complete.proofs.Switching.{IsSwitching}

abbrev pub IsPlain : Record → Type 0
IsPlain rec = has_content rec.writes rec.run ≡ false

-- each base of a later session
abbrev pub LaterPlain : Held → Type 0
LaterPlain held = (base : Base) → IsAmong base held.bases → held.session < base.rec.header.session → IsPlain base.rec

-- each base that the input brings
abbrev pub BringsPlain : Input → Type 0
BringsPlain (Receives sender.Client bytes) = (m : Stage) → message_at bytes ≡ Ok (message.Stage m) → IsPlain m.base.rec
BringsPlain (Receives (sender.Node name) bytes) = Unit {0}
BringsPlain Ticks = Unit {0}

abbrev AddsPlain : Change → Type 0
AddsPlain (AddsPart rec) = Unit {0}
AddsPlain (AddsBase base) = IsPlain base.rec
AddsPlain (SwitchesTo e) = ⊥
AddsPlain (FoldsTo n) = Unit {0}

one_base : (b base : Base) → IsAmong b (base ∷ []) → b ≡ base
one_base b base (inl same) = same
one_base b base (inr none) = absurd none

module _ (shape : Shape) where
  -- ---- through the changes

  fold_plain : (held : Held) (n : ℕ) (gone : List Record) → LaterPlain held → LaterPlain (folded shape held n gone)
  fold_plain held n [] later = later
  fold_plain held n (first ∷ rest) later = λ base among up.
      elim (among_either base (map (λ b. base_after_all shape b (filter (λ rec. is_folded held n rec) held.parts)) (filter (λ b. is_open_base held b) held.bases)) (filter (λ b. nat_lt held.session b.rec.header.session) held.bases) among) [
        | inl open_one ↦
            let made = among_map (λ b. base_after_all shape b (filter (λ rec. is_folded held n rec) held.parts)) base (filter (λ b. is_open_base held b) held.bases) open_one in
            let was = among_filter (λ b. is_open_base held b) made.0 held.bases made.1 in
            let same : base.rec.header.session ≡ held.session =
            ap (λ (b : Base). b.rec.header.session) made.2
            ∙ base_session shape held.session made.0 (filter (λ rec. is_folded held n rec) held.parts) (eqb-true made.0.rec.header.session held.session was.1) (gone_session shape held n) in
            absurd (omega (arith, same, up))
        | inr later_one ↦ later base (among_filter (λ b. nat_lt held.session b.rec.header.session) base held.bases later_one).0 up
      ]

  fold_session : (held : Held) (n : ℕ) (gone : List Record) → (folded shape held n gone).session ≡ held.session
  fold_session held n [] = refl
  fold_session held n (first ∷ rest) = refl

  record Goes (held after : Held) : Type 0 where
    same : after.session ≡ held.session
    later : LaterPlain after

  change_plain : (held : Held) (change : Change) → AddsPlain change → LaterPlain held → Goes held (changed shape held change)
  unfolding changed
  change_plain held (AddsPart rec) plain later = record { same = refl; later = later }
  change_plain held (AddsBase new) plain later = record {
    same = refl;
    later = λ base among over. elim (among_either base held.bases (new ∷ []) among) [
      | inl old ↦ later base old over
      | inr last ↦ subst (λ (b : Base). IsPlain b.rec) (sym (one_base base new last)) plain
    ];
  }
  change_plain held (SwitchesTo e) plain later = absurd plain
  change_plain held (FoldsTo n) plain later = record {
    same = fold_session held n (filter (λ rec. is_folded held n rec) held.parts);
    later = fold_plain held n (filter (λ rec. is_folded held n rec) held.parts) later;
  }

  changes_plain : (held : Held) (changes : List Change) → AllByRecursion AddsPlain changes → LaterPlain held → LaterPlain (after_changes shape held changes)
  unfolding after_changes
  changes_plain held [] all later = later
  changes_plain held (change ∷ changes) all later = changes_plain (changed shape held change) changes all.1 (change_plain held change all.0 later).later

  -- ---- the rules

  abbrev Adds : List Change → Type 0
  Adds changes = AllByRecursion AddsPlain changes

  abbrev PlanPlain : Plan → Type 0
  PlanPlain plan = Adds plan.changes

  module _ (g : ℕ) (node : NodeState) where
    in_session_plain : (rule : Memory → Turn) → ((k : Memory) → Adds (rule k).changes) → PlanPlain (in_session node rule)
    in_session_plain rule each = any_way PlanPlain (λ k. plan_of (rule k)) (ignored node) node.memory each tt

    answered_plain : (m : Memory) (rec : Record) (q : Replica) (answer : PartAnswer) → Adds (part_answered shape g m rec q answer).changes
    answered_plain m rec q Next = all_map AddsPlain (λ k. AddsPart k) (after_part rec (all_kept_in_turn shape q)).parts (all_each (λ k. Unit {0}) (after_part rec (all_kept_in_turn shape q)).parts (λ k. tt))
    answered_plain m rec q Known = tt
    answered_plain m rec q Early = tt
    answered_plain m rec q Foreign = tt
    answered_plain m rec q Full = tt
    answered_plain m rec q (Differs root got) = tt

    part_plain : (rec : Record) (m : Memory) → Adds (by_part shape g rec m).changes
    unfolding by_part
    part_plain rec m = answered_plain m rec (take_part shape g m.replica rec).replica (take_part shape g m.replica rec).answer

    ask_plain : (ask : Ask) (k : Memory) → Adds (by_ask shape g ask k).changes
    unfolding by_ask
    ask_plain ask k = tt

    dump_plain : (dump : Dump) (k : Memory) → Adds (by_dump g dump k).changes
    unfolding by_dump
    dump_plain dump k = either_way ((dump.session == k.replica.session) && (dump.region == g)) (dumped g k) (quiet k) (λ (t : Turn). Adds t.changes) tt tt

    vote_plain : (name : NodeName) (vote : Prepared) (k : Memory) → Adds (by_vote shape name vote k).changes
    unfolding by_vote
    vote_plain name vote k =
        either_way ((vote.session == k.replica.session) && (vote.region == name.region)) (then_claims shape (quiet (with_leader k (record k.leader { votes = with_vote k.leader.votes name vote.seq vote.root })))) (quiet k)
        (λ (t : Turn). Adds t.changes) tt tt

    claim_plain : (name : NodeName) (claim : Committed) (k : Memory) → Adds (by_claim shape name claim k).changes
    unfolding by_claim
    claim_plain name claim k =
        let turn : Turn = then_claims shape (quiet (with_leader k (record k.leader { claims = with_claim k.leader.claims name claim.front }))) in
        let n : ℕ = fold_number shape turn.memory in
        either_way (claim.session == k.replica.session) (then_fold shape turn) (quiet k) (λ (t : Turn). Adds t.changes)
        (either_way (folds shape turn.memory) (record { memory = after_fold turn.memory n; outs = turn.outs; changes = turn.changes ++ FoldsTo n ∷ [] }) turn (λ (t : Turn). Adds t.changes) (tt, tt) tt) tt

    tick_plain : (k : Memory) → Adds (by_tick shape k).changes
    unfolding by_tick
    tick_plain k = tt

    gather_plain : (e : ℕ) → PlanPlain (by_gather node e)
    unfolding by_gather
    gather_plain e = either_way (is_carried node.held) (told_client node (message.Gathered (record { session = e; held = node.held }))) (ignored node) PlanPlain tt tt

    stored_plain : (rec : Record) (blocks : List (List ℕ)) → IsPlain rec → PlanPlain (staged node rec blocks)
    stored_plain rec blocks plain = (plain, tt)

    anew_plain : (base : Base) → IsPlain base.rec → PlanPlain (staged_anew shape node base)
    anew_plain base plain =
        either_way (length base.blocks == 0) (option_map_or (λ k. staged_from shape node base.rec k) node.memory (ignored node)) (staged_whole shape node base) PlanPlain
        (any_way PlanPlain (λ k. staged_from shape node base.rec k) (ignored node) node.memory
        (λ k. either_way (bytes_eq (view_root shape k.replica.view) base.rec.header.root) (staged node base.rec k.replica.view.blocks) (ignored node) PlanPlain (stored_plain base.rec k.replica.view.blocks plain) tt) tt)
        (either_way (has_shape shape base.blocks && bytes_eq (root_of shape.height base.blocks) base.rec.header.root) (staged node base.rec base.blocks) (ignored node) PlanPlain
        (stored_plain base.rec base.blocks plain) tt)

    stage_plain : (base : Base) → IsPlain base.rec → PlanPlain (by_stage shape g node base)
    unfolding by_stage
    stage_plain base plain =
        let e : ℕ = base.rec.header.session in
        either_way (is_staged_here g node base.rec.header) (option_map_or (λ old. staged_again node base.rec old) (base_held shape g e node.held) (staged_anew shape node base)) (ignored node) PlanPlain
        (any_way PlanPlain (λ old. staged_again node base.rec old) (staged_anew shape node base) (base_held shape g e node.held)
        (λ old. either_way (same_record old.rec base.rec) (says_staged node e) (ignored node) PlanPlain tt tt) (anew_plain base plain)) tt

    abbrev Plainly : Plan → Type 0
    Plainly plan = PlanPlain plan ⊎ IsSwitching shape g node plan

    switch_plain : (e : ℕ) → Plainly (by_switch shape g node e)
    unfolding by_switch
    switch_plain e =
        either_way (e == node.held.session) (says_switched node e) (if nat_lt node.held.session e then option_map_or (λ base. switched shape g node e) (base_held shape g e node.held) (ignored node) else ignored node) Plainly (inl tt)
        (way_with (nat_lt node.held.session e) (option_map_or (λ base. switched shape g node e) (base_held shape g e node.held) (ignored node)) (ignored node) Plainly
        (λ up. any_way Plainly (λ (base : Base). switched shape g node e) (ignored node) (base_held shape g e node.held) (λ base. inr (record { e = e; up = ltb-true node.held.session e up; is = refl })) (inl tt)) (λ _. inl tt))

    client_plain : (x : Message) → ((m : Stage) → x ≡ message.Stage m → IsPlain m.base.rec) → Plainly (from_client shape g node x)
    client_plain (message.Part p) brings = inl (in_session_plain (by_part shape g p.rec) (λ k. part_plain p.rec k))
    client_plain (message.Ask a) brings = inl (in_session_plain (by_ask shape g a) (λ k. ask_plain a k))
    client_plain (message.Dump d) brings = inl (in_session_plain (by_dump g d) (λ k. dump_plain d k))
    client_plain (message.Gather x) brings = inl (gather_plain x.session)
    client_plain (message.Stage x) brings = inl (stage_plain x.base (brings x refl))
    client_plain (message.Switch x) brings = switch_plain x.session
    client_plain (message.Prepared x) brings = inl tt
    client_plain (message.Committed x) brings = inl tt
    client_plain (message.Answer x) brings = inl tt
    client_plain (message.Gathered x) brings = inl tt
    client_plain (message.Staged x) brings = inl tt
    client_plain (message.Switched x) brings = inl tt
    client_plain (message.Dumped x) brings = inl tt

    node_plain : (name : NodeName) (x : Message) → PlanPlain (from_node shape node name x)
    node_plain name (message.Prepared v) = in_session_plain (by_vote shape name v) (λ k. vote_plain name v k)
    node_plain name (message.Committed c) = in_session_plain (by_claim shape name c) (λ k. claim_plain name c k)
    node_plain name (message.Part x) = tt
    node_plain name (message.Ask x) = tt
    node_plain name (message.Answer x) = tt
    node_plain name (message.Gather x) = tt
    node_plain name (message.Gathered x) = tt
    node_plain name (message.Stage x) = tt
    node_plain name (message.Staged x) = tt
    node_plain name (message.Switch x) = tt
    node_plain name (message.Switched x) = tt
    node_plain name (message.Dump x) = tt
    node_plain name (message.Dumped x) = tt

    result_plain : (from : Sender) (bytes : List ℕ) (x : Result Message MessageError) → message_at bytes ≡ x → BringsPlain (Receives from bytes) → Plainly (from_result shape g node from x)
    result_plain sender.Client bytes (Ok x) read brings = client_plain x (λ m is. brings m (read ∙ ap (λ (y : Message). Ok y) is))
    result_plain (sender.Node name) bytes (Ok x) read brings = inl (either_way (is_node shape name) (from_node shape node name x) (ignored node) PlanPlain (node_plain name x) tt)
    result_plain sender.Client bytes (Err e) read brings = inl tt
    result_plain (sender.Node name) bytes (Err e) read brings = inl tt

    planned_plain : (input : Input) → BringsPlain input → Plainly (planned shape g node input)
    unfolding planned
    planned_plain (Receives from bytes) brings = result_plain from bytes (message_at bytes) refl brings
    planned_plain Ticks brings = inl (in_session_plain (by_tick shape) (λ k. tick_plain k))

    switched_plain : (e : ℕ) → node.held.session < e → LaterPlain node.held → LaterPlain (after_changes shape node.held (SwitchesTo e ∷ []))
    unfolding after_changes changed
    switched_plain e up later base among over = later base (among_filter (λ b. nat_le e b.rec.header.session) base node.held.bases among).0 (omega (arith, up, over))

    -- So it is after the input.
    pub later_then : (input : Input) → BringsPlain input → LaterPlain node.held → LaterPlain (handled shape g node input).node.held
    later_then input brings later = elim (planned_plain input brings) [
      | inl adds ↦ changes_plain node.held (planned shape g node input).changes adds later
      | inr w ↦ subst (λ (p : Plan). LaterPlain (after_changes shape node.held p.changes)) (sym w.is) (switched_plain w.e w.up later)
    ]
