-- Of each rule: what is held and what is in memory stay as they should, and each change may be made.
use Rattle.std.proofs.Common.{◌≡◌, ◌∙◌, ℕ, ◌<◌, ◌==◌, ◌&&◌, not, nat_le, nat_lt, Bool, true, false, if◌then◌else◌, List, [], ◌∷◌, ◌++◌, length, map, Option, None, Some, bytes_eq, refl, sym, ap, subst, arith}
use Rattle.std.specs.Prelude.{filter, option_map}
use Rattle.std.specs.Option.{option_map_or}
use Rattle.std.specs.List.{AllByRecursion}
use Rattle.std.proofs.lemmas.List.{append-nil}
use Rattle.std.proofs.lemmas.Bool.{eqb-true, ltb-true}
use Rattle.std.proofs.lemmas.Slice.Eq.{bytes_eq-Decides}
use Rattle.salus_types.specs.Volume.{Shape}
use Rattle.salus_types.specs.declared.names.NodeName.{NodeName}
use Rattle.salus_types.specs.declared.records.Record.{Record}
use Rattle.salus_types.specs.declared.records.Base.{Base}
use Rattle.salus_types.specs.declared.records.Held.{Held}
use Rattle.salus_message.specs.declared.small.Prepared.{Prepared}
use Rattle.salus_message.specs.declared.small.Committed.{Committed}
use Rattle.salus_message.specs.declared.small.Ask.{Ask}
use Rattle.salus_message.specs.declared.small.Dump.{Dump}
use Rattle.salus_message.specs.declared.wire.Message.TheVariants as message
use Rattle.merkle_region.specs.Tree.{root_of, IsAmong}
use Rattle.holding_model.specs.Fitting.{has_content, has_shape}
use Rattle.replica_rules.specs.Views.{View, view_of_base, view_after, view_root, is_accepted, has_right_shape}
use Rattle.replica_rules.specs.Replicas.{Replica, with_view, PartAnswer, Foreign, Known, Early, Full, Differs, Next, PartTaken, left_as, is_for, has_early, kept_early, tried, take_part, Applied, after_part, all_kept_in_turn, take_ask, AskTaken, is_asked_here, is_due, answer_to, with_ask}
use Rattle.replica_rules.specs.Voting.{with_vote, with_claim}
use Rattle.holding_model.specs.Changing.{Change, AddsPart, AddsBase, SwitchesTo, FoldsTo, is_open_base, changed, after_changes}
use Rattle.replica_rules.specs.Nodes.{Memory, NodeState, stands_for, base_held, Tried, all_tried, open_parts, memory_of, loaded_as}
use Rattle.replica_rules.specs.Rules.{Turn, Plan, quiet, plan_of, ignored, told_client, then_claims, part_answered, by_part, ask_taken, by_ask, is_carried, by_gather, says_staged, staged, staged_again, staged_whole, staged_from, staged_anew, is_staged_here, by_stage, same_record, says_switched, switched, by_switch, dumped, by_dump, with_leader, by_vote, fold_number, folds, after_fold, then_fold, by_claim, by_tick, Input, planned}
use Rattle.replica_rules.proofs.Dispatch.{planned_by}
use Rattle.list_lemmas.proofs.Each.{either_way, all_both, OfSome, any_way}
use Rattle.list_lemmas.proofs.Members.{among_filter-in, found_among}
use Rattle.list_lemmas.proofs.Tests.{by_bool, way_with, and_left, and_right}
use Rattle.law_handed.proofs.Whole.{Leads, IsOurs, GoesTo, ours_shape, AppliedFrom, kept_in_turn_from, TriedFrom, all_tried_from}
use Rattle.law_handed.proofs.Sane.{IsWhole, Sane, filter_append, single, stored_sane, fold_sane}

-- the base's blocks have the root that its record names
abbrev pub HasItsRoot : Shape → Base → Type 0
HasItsRoot shape base = root_of shape.height base.blocks ≡ base.rec.header.root

-- a base that is added has its record's root, a switch goes to a later session, and a fold is of parts that lead on from the one base
abbrev pub MayChange : Shape → Held → Change → Type 0
MayChange shape held (AddsPart rec) = Unit {0}
MayChange shape held (AddsBase base) = HasItsRoot shape base
MayChange shape held (SwitchesTo e) = held.session < e
MayChange shape held (FoldsTo n) = (view : View) × IsWhole shape held view

unfoldable pub MayAll : Shape → Held → List Change → Type 0
MayAll shape held [] = Unit {0}
MayAll shape held (change ∷ changes) = MayChange shape held change × MayAll shape (changed shape held change) changes

pub record TurnSane (shape : Shape) (held : Held) (turn : Turn) : Type 0 where
  pub sane : Sane shape (after_changes shape held turn.changes) turn.memory
  pub may : MayAll shape held turn.changes

pub record PlanSane (shape : Shape) (held : Held) (plan : Plan) : Type 0 where
  pub sane : OfSome (Sane shape (after_changes shape held plan.changes)) plan.memory
  pub may : MayAll shape held plan.changes

abbrev pub ByAnswer : Shape → ℕ → View → Record → View → PartAnswer → Type 0
ByAnswer shape s view rec now Next = GoesTo shape s view rec now
ByAnswer shape s view rec now Early = now ≡ view
ByAnswer shape s view rec now Known = Unit {0}
ByAnswer shape s view rec now Foreign = Unit {0}
ByAnswer shape s view rec now Full = Unit {0}
ByAnswer shape s view rec now (Differs root got) = Unit {0}

pub record PartFrom (shape : Shape) (s : ℕ) (view : View) (rec : Record) (taken : PartTaken) : Type 0 where
  pub kept : AllByRecursion (IsOurs s) taken.replica.early
  pub session : taken.replica.session ≡ s
  pub now : ByAnswer shape s view rec taken.replica.view taken.answer

module _ (shape : Shape) where
  take_part_from : (g s : ℕ) (r : Replica) (rec : Record) → AllByRecursion (IsOurs s) r.early → r.session ≡ s → PartFrom shape s r.view rec (take_part shape g r rec)
  unfolding take_part
  take_part_from g s r rec kept same =
      let P : PartTaken → Type 0 = PartFrom shape s r.view rec in
      way_with (not (is_for shape g r rec)) (left_as r Foreign) (if nat_le rec.header.seq r.view.number then left_as r Known else (if rec.header.previous == r.view.number then tried shape r rec else kept_early r rec)) P
      (λ foreign. record { kept = kept; session = same; now = tt })
      (λ ours_not.
      let ours : is_for shape g r rec ≡ true = by_bool (is_for shape g r rec) (is_for shape g r rec ≡ true) (λ e. e) (λ e. absurd (differ (sym (ap not e) ∙ ours_not))) in
      let shaped : (has_content rec.writes rec.run ≡ true) × (rec.header.previous < rec.header.seq) = ours_shape shape g rec (and_right _ (has_right_shape shape g rec) ours) in
      let both : _ ≡ true = and_left ((rec.header.session == r.session) && (rec.header.region == g)) (has_right_shape shape g rec) ours in
      let its : rec.header.session ≡ s = eqb-true rec.header.session r.session (and_left (rec.header.session == r.session) (rec.header.region == g) both) ∙ same in
      let mine : IsOurs s rec = record { session = its; content = shaped.0; above = shaped.1 } in
      either_way (nat_le rec.header.seq r.view.number) (left_as r Known) (if rec.header.previous == r.view.number then tried shape r rec else kept_early r rec) P (record { kept = kept; session = same; now = tt })
      (way_with (rec.header.previous == r.view.number) (tried shape r rec) (kept_early r rec) P
      (λ next.
      let starts : rec.header.previous ≡ r.view.number = eqb-true rec.header.previous r.view.number next in
      let above : rec.header.previous < rec.header.seq = shaped.1 in
      let over : r.view.number < rec.header.seq = omega arith in
      way_with (is_accepted shape r.view rec) (left_as (with_view r (view_after shape r.view rec)) Next) (left_as r (Differs rec.header.root (view_root shape (view_after shape r.view rec)))) P
      (λ accepted. record { kept = kept; session = same; now = record { session = its; on = record { over = over; content = shaped.0; accepted = accepted }; is = refl } }) (λ differs. record { kept = kept; session = same; now = tt }))
      (λ early.
      either_way (has_early r.early rec.header.previous) (left_as r Early) (if nat_lt (length r.early) 16 then left_as (record r { early = r.early ++ rec ∷ [] }) Early else left_as r Full) P
      (record { kept = kept; session = same; now = refl })
      (either_way (nat_lt (length r.early) 16) (left_as (record r { early = r.early ++ rec ∷ [] }) Early) (left_as r Full) P
      (record { kept = all_both (IsOurs s) r.early (rec ∷ []) kept (mine, tt); session = same; now = refl }) (record { kept = kept; session = same; now = tt })))))
    where
      differ : true ≡ false → ⊥
      differ e = cc

  calm_sane : (held : Held) (m : Memory) → Sane shape held m → TurnSane shape held (quiet m)
  unfolding after_changes MayAll
  calm_sane held m sane = record { sane = sane; may = tt }

  added_may : (held : Held) (parts : List Record) → MayAll shape held (map (λ rec. AddsPart rec) parts)
  unfolding MayAll
  added_may held [] = tt
  added_may held (rec ∷ parts) = (tt, added_may (changed shape held (AddsPart rec)) parts)

  next_from : (s : ℕ) (view : View) (rec : Record) (r : Replica) → AllByRecursion (IsOurs s) r.early → r.session ≡ s → GoesTo shape s view rec r.view → AppliedFrom shape s view (after_part rec (all_kept_in_turn shape r))
  unfolding Leads
  next_from s view rec r kept same to =
      let more : AppliedFrom shape s r.view (all_kept_in_turn shape r) = kept_in_turn_from shape s (length r.early) r kept same in
      record {
        kept = more.kept;
        session = more.session;
        ours = (to.session, more.ours);
        leads = (to.on, subst (λ (v : View). Leads shape v (all_kept_in_turn shape r).parts (all_kept_in_turn shape r).replica.view) to.is more.leads);
      }

  answered_sane : (g : ℕ) (held : Held) (m : Memory) (rec : Record) (r : Replica) (answer : PartAnswer) → Sane shape held m → PartFrom shape held.session m.replica.view rec (record { replica = r; answer = answer })
      → TurnSane shape held (part_answered shape g m rec r answer)
  unfolding after_changes MayAll
  answered_sane g held m rec r Next sane from =
      let applied : Applied = after_part rec (all_kept_in_turn shape r) in
      record { sane = stored_sane shape g held m applied sane (next_from held.session m.replica.view rec r from.kept from.session from.now); may = added_may held applied.parts }
  answered_sane g held m rec r Known sane from = record { sane = sane; may = tt }
  answered_sane g held m rec r Early sane from =
      calm_sane held (record m { replica = r }) (record { session = from.session; early = from.kept; whole = λ w. subst (λ (v : View). IsWhole shape held v) (sym from.now) (sane.whole w) })
  answered_sane g held m rec r Foreign sane from = calm_sane held m sane
  answered_sane g held m rec r Full sane from = calm_sane held m sane
  answered_sane g held m rec r (Differs root got) sane from = calm_sane held m sane

  part_sane : (g : ℕ) (held : Held) (rec : Record) (m : Memory) → Sane shape held m → TurnSane shape held (by_part shape g rec m)
  unfolding by_part
  part_sane g held rec m sane =
      let taken : PartTaken = take_part shape g m.replica rec in
      let turn : TurnSane shape held (part_answered shape g m rec taken.replica taken.answer) =
      answered_sane g held m rec taken.replica taken.answer sane (take_part_from g held.session m.replica rec sane.early sane.session) in
      record { sane = record { session = turn.sane.session; early = turn.sane.early; whole = turn.sane.whole }; may = turn.may }

  ask_sane : (g : ℕ) (held : Held) (ask : Ask) (m : Memory) → Sane shape held m → TurnSane shape held (by_ask shape g ask m)
  unfolding by_ask take_ask after_changes MayAll
  ask_sane g held ask m sane =
      let r : Replica = m.replica in
      let P : AskTaken → Type 0 = λ t. TurnSane shape held (ask_taken m t) in
      let same : Sane shape held m = sane in
      either_way (not (is_asked_here shape g r ask)) (record { replica = r; answer = None })
      (if is_due r.view ask then record { replica = r; answer = Some (answer_to shape r.view ask) } else record { replica = record r { asks = with_ask r.asks ask }; answer = None }) P
      (record { sane = sane; may = tt })
      (either_way (is_due r.view ask) (record { replica = r; answer = Some (answer_to shape r.view ask) }) (record { replica = record r { asks = with_ask r.asks ask }; answer = None }) P
      (record { sane = sane; may = tt }) (record { sane = record { session = sane.session; early = sane.early; whole = sane.whole }; may = tt }))

  dump_sane : (g : ℕ) (held : Held) (dump : Dump) (m : Memory) → Sane shape held m → TurnSane shape held (by_dump g dump m)
  unfolding by_dump after_changes MayAll
  dump_sane g held dump m sane = either_way ((dump.session == m.replica.session) && (dump.region == g)) (dumped g m) (quiet m) (TurnSane shape held) (record { sane = sane; may = tt }) (calm_sane held m sane)

  led_sane : (held : Held) (m next : Memory) → Sane shape held m → next.replica ≡ m.replica → next.whole ≡ m.whole → Sane shape held next
  led_sane held m next sane r w = record {
    session = ap (λ (x : Replica). x.session) r ∙ sane.session;
    early = subst (λ (x : Replica). AllByRecursion (IsOurs held.session) x.early) (sym r) sane.early;
    whole = λ yes_whole. subst (λ (x : Replica). IsWhole shape held x.view) (sym r) (sane.whole (sym w ∙ yes_whole));
  }

  claims_sane : (held : Held) (m : Memory) → Sane shape held m → TurnSane shape held (then_claims shape (quiet m))
  unfolding after_changes MayAll
  claims_sane held m sane = record { sane = led_sane held m (then_claims shape (quiet m)).memory sane refl refl; may = tt }

  vote_sane : (held : Held) (name : NodeName) (vote : Prepared) (m : Memory) → Sane shape held m → TurnSane shape held (by_vote shape name vote m)
  unfolding by_vote
  vote_sane held name vote m sane =
      let next : Memory = with_leader m (record m.leader { votes = with_vote m.leader.votes name vote.seq vote.root }) in
      either_way ((vote.session == m.replica.session) && (vote.region == name.region)) (then_claims shape (quiet next)) (quiet m) (TurnSane shape held) (claims_sane held next (led_sane held m next sane refl refl)) (calm_sane held m sane)

  claim_sane : (held : Held) (name : NodeName) (claim : Committed) (m : Memory) → Sane shape held m → TurnSane shape held (by_claim shape name claim m)
  unfolding by_claim after_changes MayAll
  claim_sane held name claim m sane =
      let next : Memory = with_leader m (record m.leader { claims = with_claim m.leader.claims name claim.front }) in
      let turn : Turn = then_claims shape (quiet next) in
      let n : ℕ = fold_number shape turn.memory in
      let now : TurnSane shape held turn = claims_sane held next (led_sane held m next sane refl refl) in
      either_way (claim.session == m.replica.session) (then_fold shape turn) (quiet m) (TurnSane shape held)
      (way_with (folds shape turn.memory) (record { memory = after_fold turn.memory n; outs = turn.outs; changes = turn.changes ++ FoldsTo n ∷ [] }) turn (TurnSane shape held)
      (λ yes_folds. record { sane = fold_sane shape held n turn.memory now.sane; may = ((turn.memory.replica.view, now.sane.whole (and_left turn.memory.whole _ yes_folds)), tt) }) (λ no_fold. now))
      (calm_sane held m sane)

  tick_sane : (held : Held) (m : Memory) → Sane shape held m → TurnSane shape held (by_tick shape m)
  unfolding by_tick after_changes MayAll
  tick_sane held m sane = record { sane = sane; may = tt }

  -- ---- a load

  load_sane : (g : ℕ) (held : Held) (base : Base) → IsAmong base held.bases → stands_for shape g held.session base ≡ true → Sane shape held (memory_of shape g held base)
  load_sane g held base among stands =
      let t : Tried = all_tried shape g (view_of_base base) (open_parts held) in
      let from : TriedFrom shape (view_of_base base) (open_parts held) t = all_tried_from shape g (view_of_base base) (open_parts held) in
      let ours : is_open_base held base ≡ true = and_left _ (base.rec.header.region == g) (and_left _ (has_shape shape base.blocks) stands) in
      record {
        session = refl;
        early = tt;
        whole = λ w.
            let count : length t.parts ≡ length (open_parts held) = eqb-true (length t.parts) (length (open_parts held)) (and_left _ (length (filter (λ b. is_open_base held b) held.bases) == 1) w) in
            let one : length (filter (λ b. is_open_base held b) held.bases) ≡ 1 = eqb-true (length (filter (λ b. is_open_base held b) held.bases)) 1 (and_right (length t.parts == length (open_parts held)) _ w) in
            let same : t.parts ≡ open_parts held = from.all count in
            record {
              base = base;
              only = single (filter (λ b. is_open_base held b) held.bases) base one (among_filter-in (λ b. is_open_base held b) held.bases base among ours);
              leads = subst (λ (l : List Record). Leads shape (view_of_base base) l t.view) same from.leads;
            };
      }

  pub fresh_sane : (g : ℕ) (held : Held) → OfSome (Sane shape held) (loaded_as shape g held).memory
  unfolding loaded_as
  fresh_sane g held = opened (held.session == 0) where
    mapped : (o : Option Base) → OfSome (λ base. IsAmong base held.bases × (stands_for shape g held.session base ≡ true)) o → OfSome (Sane shape held) (option_map (λ base. memory_of shape g held base) o)
    mapped None of = tt
    mapped (Some base) of = load_sane g held base of.0 of.1

    opened : (none : Bool) → OfSome (Sane shape held) (option_map (λ base. memory_of shape g held base) (if none then None else base_held shape g held.session held))
    opened true = tt
    opened false = mapped (base_held shape g held.session held) (found_among (λ base. stands_for shape g held.session base) held.bases)

  -- ---- the rules that need no open session

  base_added : (held : Held) (new : Base) (m : Memory) → held.session < new.rec.header.session → Sane shape held m → Sane shape (changed shape held (AddsBase new)) m
  unfolding changed
  base_added held new m less sane = record {
    session = sane.session;
    early = sane.early;
    whole = λ w.
        let old : IsWhole shape held m.replica.view = sane.whole w in
        let t : Base → Bool = λ b. is_open_base held b in
        let off : t new ≡ false = by_bool (t new) (t new ≡ false) (λ same_session. let same : new.rec.header.session ≡ held.session = eqb-true new.rec.header.session held.session same_session in absurd (omega arith)) (λ e. e) in
        let only : filter t (held.bases ++ new ∷ []) ≡ old.base ∷ [] =
        filter_append t held.bases (new ∷ []) ∙ ap (λ v. filter t held.bases ++ (if v then new ∷ [] else [])) off ∙ append-nil (filter t held.bases) ∙ old.only in
        record { base = old.base; only = only; leads = old.leads };
  }

  base_added_some : (held : Held) (new : Base) (memory : Option Memory) → held.session < new.rec.header.session → OfSome (Sane shape held) memory → OfSome (Sane shape (changed shape held (AddsBase new))) memory
  base_added_some held new None less sane = tt
  base_added_some held new (Some m) less sane = base_added held new m less sane

  module _ (g : ℕ) (node : NodeState) (there : OfSome (Sane shape node.held) node.memory) where
    abbrev IsSane : Plan → Type 0
    IsSane plan = PlanSane shape node.held plan

    nothing_sane : IsSane (ignored node)
    unfolding after_changes MayAll
    nothing_sane = record { sane = there; may = tt }

    turn_sane : (turn : Turn) → TurnSane shape node.held turn → IsSane (plan_of turn)
    turn_sane turn is = record { sane = is.sane; may = is.may }

    gather_sane : (e : ℕ) → IsSane (by_gather node e)
    unfolding by_gather after_changes MayAll
    gather_sane e = either_way (is_carried node.held) (told_client node (message.Gathered (record { session = e; held = node.held }))) (ignored node) IsSane (record { sane = there; may = tt }) nothing_sane

    -- blocks that were tested have the record's root
    staged_sane : (rec : Record) (blocks : List (List ℕ)) → node.held.session < rec.header.session → bytes_eq (root_of shape.height blocks) rec.header.root ≡ true → IsSane (staged node rec blocks)
    unfolding after_changes MayAll
    staged_sane rec blocks less tested = record {
      sane = base_added_some node.held (record { rec = rec; blocks = blocks }) node.memory less there;
      may = ((bytes_eq-Decides (root_of shape.height blocks) rec.header.root).0 tested, tt);
    }

    says_staged_sane : (e : ℕ) → IsSane (says_staged node e)
    unfolding after_changes MayAll
    says_staged_sane e = record { sane = there; may = tt }

    anew_sane : (base : Base) → node.held.session < base.rec.header.session → IsSane (staged_anew shape node base)
    anew_sane base less =
        either_way (length base.blocks == 0) (option_map_or (λ m. staged_from shape node base.rec m) node.memory (ignored node)) (staged_whole shape node base) IsSane
        (any_way IsSane (λ m. staged_from shape node base.rec m) (ignored node) node.memory
        (λ m. way_with (bytes_eq (view_root shape m.replica.view) base.rec.header.root) (staged node base.rec m.replica.view.blocks) (ignored node) IsSane (staged_sane base.rec m.replica.view.blocks less) (λ differs. nothing_sane)) nothing_sane)
        (way_with (has_shape shape base.blocks && bytes_eq (root_of shape.height base.blocks) base.rec.header.root) (staged node base.rec base.blocks) (ignored node) IsSane
        (λ pass. staged_sane base.rec base.blocks less (and_right (has_shape shape base.blocks) (bytes_eq (root_of shape.height base.blocks) base.rec.header.root) pass)) (λ differs. nothing_sane))

    stage_sane : (base : Base) → IsSane (by_stage shape g node base)
    unfolding by_stage
    stage_sane base =
        let e : ℕ = base.rec.header.session in
        way_with (is_staged_here g node base.rec.header) (option_map_or (λ old. staged_again node base.rec old) (base_held shape g e node.held) (staged_anew shape node base)) (ignored node) IsSane
        (λ here.
        let less : node.held.session < e = ltb-true node.held.session e (and_left (nat_lt node.held.session e) (base.rec.header.region == g) here) in
        any_way IsSane (λ old. staged_again node base.rec old) (staged_anew shape node base) (base_held shape g e node.held)
        (λ old. either_way (same_record old.rec base.rec) (says_staged node e) (ignored node) IsSane (says_staged_sane e) nothing_sane) (anew_sane base less))
        (λ not_here. nothing_sane)

    switched_sane : (e : ℕ) → node.held.session < e → IsSane (switched shape g node e)
    unfolding after_changes MayAll
    switched_sane e less = record { sane = fresh_sane g (changed shape node.held (SwitchesTo e)); may = (less, tt) }

    says_switched_sane : (e : ℕ) → IsSane (says_switched node e)
    unfolding after_changes MayAll
    says_switched_sane e = record { sane = there; may = tt }

    switch_sane : (e : ℕ) → IsSane (by_switch shape g node e)
    unfolding by_switch
    switch_sane e =
        either_way (e == node.held.session) (says_switched node e) (if nat_lt node.held.session e then option_map_or (λ base. switched shape g node e) (base_held shape g e node.held) (ignored node) else ignored node) IsSane (says_switched_sane e)
        (way_with (nat_lt node.held.session e) (option_map_or (λ base. switched shape g node e) (base_held shape g e node.held) (ignored node)) (ignored node) IsSane
        (λ above. any_way IsSane (λ base. switched shape g node e) (ignored node) (base_held shape g e node.held) (λ base. switched_sane e (ltb-true node.held.session e above)) nothing_sane) (λ under. nothing_sane))

    pub planned_sane : (input : Input) → IsSane (planned shape g node input)
    planned_sane input =
        planned_by shape g node (Sane shape node.held) there IsSane nothing_sane
        (λ rec m all. turn_sane (by_part shape g rec m) (part_sane g node.held rec m all)) (λ ask m all. turn_sane (by_ask shape g ask m) (ask_sane g node.held ask m all))
        (λ dump m all. turn_sane (by_dump g dump m) (dump_sane g node.held dump m all)) (λ name vote m all. turn_sane (by_vote shape name vote m) (vote_sane node.held name vote m all))
        (λ name claim m all. turn_sane (by_claim shape name claim m) (claim_sane node.held name claim m all)) (λ m all. turn_sane (by_tick shape m) (tick_sane node.held m all))
        gather_sane stage_sane switch_sane input
