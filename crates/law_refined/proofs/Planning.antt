-- A load, and the rules that need no open session; so every handling keeps what stands, and its changes are those of the
-- abstract model.
use Rattle.std.proofs.Common.{◌≡◌, ◌∙◌, inl, inr, ⊎_elim, ℕ, ◌-◌, ◌^◌, ◌<◌, ◌≤◌, ◌==◌, ◌&&◌, nat_lt, Bool, true, false, if◌then◌else◌, List, [], ◌∷◌, length, Option, None, Some, refl, sym, ap, subst, arith, le_trans}
use Rattle.std.specs.Prelude.{filter, find, map, option_map, bytes_eq, Result, Ok, Err}
use Rattle.std.specs.Option.{option_map_or}
use Rattle.std.specs.List.{AllByRecursion}
use Rattle.std.proofs.lemmas.Bool.{eqb-true, eqb-false, eq-eqb, ltb-true, lt-ltb}
use Rattle.std.proofs.lemmas.Option.{none-some}
use Rattle.std.proofs.lemmas.Slice.Eq.{bytes_eq-Decides}
use Rattle.salus_types.specs.Volume.{Shape}
use Rattle.salus_types.specs.declared.names.NodeName.{NodeName}
use Rattle.salus_types.specs.declared.names.Sender.{Sender}
use Rattle.salus_types.specs.declared.names.Sender.TheVariants as sender
use Rattle.salus_types.specs.declared.records.PlaceWrite.{PlaceWrite}
use Rattle.salus_types.specs.declared.records.Trim.{Trim}
use Rattle.salus_types.specs.declared.records.Record.{Record}
use Rattle.salus_types.specs.declared.records.Base.{Base}
use Rattle.salus_types.specs.declared.records.Held.{Held}
use Rattle.salus_message.specs.declared.wire.Message.{Message}
use Rattle.salus_message.specs.declared.wire.Message.TheVariants as message
use Rattle.salus_message.specs.declared.wire.MessageError.{MessageError}
use Rattle.salus_message.specs.Reading.{message_at}
use Rattle.merkle_region.specs.Tree.{root_of, IsAmong}
use Rattle.volume_model.specs.Recovering.{is_of}
use Rattle.volume_model.specs.Groups.{group_of}
use Rattle.holding_model.specs.Fitting.{ascends_from, writes_fit, run_fits, record_fits, has_content, has_shape}
use Rattle.holding_model.specs.Changing.{AddsBase, SwitchesTo, is_open_base, changed, after_changes}
use Rattle.replica_rules.specs.Views.{View, view_of_base, view_root}
use Rattle.replica_rules.specs.Nodes.{Memory, NodeState, stands_for, base_held, Tried, all_tried, open_parts, begun_with, memory_with, memory_of, loaded_as}
use Rattle.replica_rules.specs.Rules.{Turn, Plan, plan_of, ignored, told_client, in_session, same_record, by_part, by_ask, by_dump, by_vote, by_claim, by_tick, is_carried, by_gather, says_staged, staged, staged_again, staged_whole, staged_from, staged_anew, is_staged_here, by_stage, says_switched, switched, by_switch, from_client, from_node, is_node, from_result, Input, Receives, Ticks, planned}
use Rattle.list_lemmas.proofs.Each.{either_way, all_then, all_zip, OfSome}
use Rattle.list_lemmas.proofs.Members.{among_filter-in, found_among}
use Rattle.list_lemmas.proofs.Tests.{by_bool, way_with, and_left, and_right}
use Rattle.law_prefix.specs.Numbers.{Mem}
use Rattle.law_prefix.specs.World.{Client, Vote, Claim, Volume}
use Rattle.law_prefix.specs.Steps.{IsBatch}
use Rattle.kept_model.specs.Nodes.{node_of}
use Rattle.kept_model.specs.Images.{open_place, later_bases, later_sessions}
use Rattle.law_refined.specs.Bringing.{PartFits, StartFits, ClientFits, NodeFits, ResultFits, InputFits}
use Rattle.law_refined.specs.Standing.{WhereSome, BaseStands, Opened, HeldStands, BegunBy, LeaderStands, StateStands}
use Rattle.law_refined.proofs.Listed.{and_both, mem_among, mem_map, mem_reverse, filter_all, filter_none}
use Rattle.law_refined.proofs.Chains.{chain_sessions, chain_fits, chain_shaped, chain_tried}
use Rattle.law_refined.proofs.Opens.{opened_place, opened_session, opened_stands, BaseMore, base_more, SwitchedTo, switch_to}
use Rattle.law_refined.proofs.Leads.{part_batch, leader_begun}
use Rattle.law_refined.proofs.Turning.{Reaches, AllFit, Remembers, TurnStands, part_stands, ask_stands, dump_stands, vote_stands, claim_stands, tick_stands}

pub start_bare : (c : Client) (rec : Record) → StartFits c rec → has_content rec.writes rec.run ≡ false
start_bare c rec start = ap (λ (l : List PlaceWrite). has_content l rec.run) start.no_writes ∙ ap (λ (o : Option Trim). has_content [] o) start.no_run

pub start_inside : (shape : Shape) (c : Client) (rec : Record) → StartFits c rec → record_fits shape rec ≡ true
unfolding record_fits ascends_from
start_inside shape c rec start =
    and_both (writes_fit shape rec.writes) (run_fits shape rec.run) (ap (λ (l : List PlaceWrite). writes_fit shape l) start.no_writes ∙ nothing_fits shape) (ap (λ (o : Option Trim). run_fits shape o) start.no_run)
  where
    nothing_fits : (shape : Shape) → writes_fit shape [] ≡ true
    nothing_fits shape = refl

where_way : {A B : Type 0} (Q : A → Type 0) (P : B → Type 0) (f : A → B) (d : B) (o : Option A) → WhereSome Q o → ((x : A) → Q x → P (f x)) → P d → P (option_map_or f o d)
where_way Q P f d None q some none = none
where_way Q P f d (Some x) q some none = some x q

none_found : {A : Type 0} (t : A → Bool) (xs : List A) → find t xs ≡ None → AllByRecursion (λ x. t x ≡ false) xs
none_found t [] none = tt
none_found t (x ∷ xs) none =
    by_bool (t x) (AllByRecursion (λ y. t y ≡ false) (x ∷ xs))
    (λ hit. absurd (none-some x (sym none ∙ ap (λ b. if b then Some x else find t xs) hit)))
    (λ miss. (miss, none_found t xs (sym (ap (λ b. if b then Some x else find t xs) miss) ∙ none)))

switched_session : (shape : Shape) (held : Held) (e : ℕ) → (changed shape held (SwitchesTo e)).session ≡ e
unfolding changed
switched_session shape held e = refl

positive_of : (e : ℕ) → (e == 0) ≡ false → 0 < e
positive_of e some = let differs : e ≡ 0 → ⊥ = eqb-false e 0 some in omega (arith, differs)

differ : true ≡ false → ⊥
differ e = cc

module _ (shape : Shape) (v : Volume) (g : ℕ) (c : Client) (votes : List Vote) (claims : List Claim) where
  abbrev Knows : Held → Memory → Type 0
  Knows held m = Remembers shape v g c votes claims held m

  -- ---- a load

  base_start : (base : Base) (e : ℕ) → base.rec.header.session ≡ e → BaseStands shape g c e base → c.starts e ≤ base.rec.header.seq
  base_start base e same stands =
      ⊎_elim (λ (start : StartFits c base.rec). let is : base.rec.header.seq ≡ c.starts e = start.start ∙ ap (λ x. c.starts x) same in omega arith)
      (λ (part : (base.rec.header.session ≡ e) × PartFits c base.rec).
      let after : c.starts e ≤ base.rec.header.seq - 1 = subst (λ x. c.starts x ≤ base.rec.header.seq - 1) same part.1.is_part.after_start in omega arith) stands.fits

  base_begun : (base : Base) (e : ℕ) → base.rec.header.session ≡ e → BaseStands shape g c e base → BegunBy c e base.rec.header.seq (begun_with base)
  base_begun base e same stands =
      way_with (has_content base.rec.writes base.rec.run) None (Some base.rec.header.seq) (BegunBy c e base.rec.header.seq)
      (λ content. ⊎_elim (λ (start : StartFits c base.rec). absurd (differ (sym content ∙ start_bare c base.rec start)))
      (λ (part : (base.rec.header.session ≡ e) × PartFits c base.rec). subst (λ x. IsBatch c x (base.rec.header.seq - 1)) same (part_batch c base.rec part.1)) stands.fits)
      (λ bare. refl)

  memory_loaded : (held : Held) → HeldStands shape g c held → 0 < held.session → (view : View) (o : Opened shape g c held view) → Knows held (memory_of shape g held o.base)
  memory_loaded held holds positive view o =
      let e : ℕ = held.session in
      let sessions : AllByRecursion (λ rec. rec.header.session ≡ e) held.parts = chain_sessions shape g c e (view_of_base o.base) held.parts view o.chain in
      let open_same : open_parts held ≡ held.parts =
      filter_all (λ rec. rec.header.session == e) held.parts (all_then (λ rec. rec.header.session ≡ e) (λ rec. (rec.header.session == e) ≡ true) (λ rec same. eq-eqb rec.header.session e same) held.parts sessions) in
      let tried_same : all_tried shape g (view_of_base o.base) (open_parts held) ≡ record { view = view; parts = held.parts } =
      ap (λ (l : List Record). all_tried shape g (view_of_base o.base) l) open_same ∙ chain_tried shape g c e (view_of_base o.base) held.parts view o.chain in
      let place : open_place held ≡ o.base.rec.header.seq = opened_place shape g c held view o in
      let same : o.base.rec.header.session ≡ e = opened_session shape g c held view o in
      let stands : BaseStands shape g c e o.base = opened_stands shape g c held view holds o in
      let start : c.starts e ≤ o.base.rec.header.seq = base_start o.base e same stands in
      let low : o.base.rec.header.seq ≤ open_place held = omega arith in
      let kept : AllByRecursion (λ rec. PartFits c rec × (rec.header.session ≡ e)) held.parts =
      all_zip (PartFits c) (λ rec. rec.header.session ≡ e) held.parts (chain_fits shape g c e (view_of_base o.base) held.parts view o.chain) sessions in
      let here : Knows held (memory_with g held o.base (record { view = view; parts = held.parts })) = record {
        positive = positive;
        session = refl;
        parts = refl;
        whole = and_both (length held.parts == length (open_parts held)) (length (filter (λ b. is_open_base held b) held.bases) == 1)
            (eq-eqb (length held.parts) (length (open_parts held)) (ap (λ (l : List Record). length l) (sym open_same))) (ap (λ (l : List Base). length l == 1) o.only);
        early = tt;
        opened = o;
        leads = leader_begun shape v c votes claims e (open_place held) o.base.rec.header.seq g held.parts low (le_trans start low) kept;
        begun = base_begun o.base e same stands;
      } in
      subst (λ (t : Tried). Knows held (memory_with g held o.base t)) (sym tried_same) here

  only_one : (b base : Base) → IsAmong b (base ∷ []) → b ≡ base
  only_one b base among = ⊎_elim (λ same. same) (λ none. absurd none) among

  pub fresh_stands : (held : Held) → HeldStands shape g c held → WhereSome (Knows held) (loaded_as shape g held).memory
  unfolding loaded_as
  fresh_stands held holds = by_session (held.session == 0) refl where
    of_base : (o : Option Base) → (0 < held.session) → OfSome (λ base. IsAmong base held.bases × (stands_for shape g held.session base ≡ true)) o → WhereSome (Knows held) (option_map (λ base. memory_of shape g held base) o)
    of_base None up found = tt
    of_base (Some base) up found =
        ⊎_elim (λ (closed : (held.session ≡ 0) × (held.parts ≡ [])). let none : held.session ≡ 0 = closed.0 in absurd (omega arith))
        (λ (open_view : (0 < held.session) × (view : View) × Opened shape g c held view).
        let o : Opened shape g c held open_view.1 = open_view.2 in
        let ours : is_open_base held base ≡ true =
        and_left (base.rec.header.session == held.session) (base.rec.header.region == g) (and_left (is_of held.session g base.rec.header) (has_shape shape base.blocks) found.1) in
        let is : base ≡ o.base = only_one base o.base (subst (λ (l : List Base). IsAmong base l) o.only (among_filter-in (λ b. is_open_base held b) held.bases base found.0 ours)) in
        subst (λ b. Knows held (memory_of shape g held b)) (sym is) (memory_loaded held holds up open_view.1 o)) holds.open_is

    by_session : (b : Bool) → (held.session == 0) ≡ b → WhereSome (Knows held) (option_map (λ base. memory_of shape g held base) (if b then None else base_held shape g held.session held))
    by_session true none = tt
    by_session false some = of_base (base_held shape g held.session held) (positive_of held.session some) (found_among (λ base. stands_for shape g held.session base) held.bases)

  pub load_stands : (held : Held) → HeldStands shape g c held → StateStands shape v g c votes claims (loaded_as shape g held)
  unfolding loaded_as
  load_stands held holds = record { holds = holds; memory = fresh_stands held holds }

  -- ---- plans

  pub record PlanStands (held : Held) (plan : Plan) : Type 0 where
    pub reaches : Reaches shape v g c votes claims held plan.changes
    pub holds : HeldStands shape g c (after_changes shape held plan.changes)
    pub memory : WhereSome (Knows (after_changes shape held plan.changes)) plan.memory
    pub outs : AllFit shape v g c votes claims (after_changes shape held plan.changes) plan.outs

  module _ (numbered : (r : ℕ) → v.honest r ≡ true → IsAmong (node_of shape r) (group_of shape (v.region r))) (node : NodeState) (holds : HeldStands shape g c node.held) (there : WhereSome (Knows node.held) node.memory) where
    abbrev Good : Plan → Type 0
    Good plan = PlanStands node.held plan

    nothing : Good (ignored node)
    unfolding after_changes Reaches
    nothing = record { reaches = tt; holds = holds; memory = there; outs = tt }

    in_session_good : (rule : Memory → Turn) → ((m : Memory) → Knows node.held m → TurnStands shape v g c votes claims node.held (rule m)) → Good (in_session node rule)
    in_session_good rule each =
        where_way (Knows node.held) Good (λ m. plan_of (rule m)) (ignored node) node.memory there
        (λ m r. let turn : TurnStands shape v g c votes claims node.held (rule m) = each m r in record { reaches = turn.reaches; holds = turn.holds; memory = turn.memory; outs = turn.outs }) nothing

    -- ---- a gathering

    gather_good : (e : ℕ) → (e ≤ c.asked) × (e < 2 ^ 64) → Good (by_gather node e)
    unfolding by_gather after_changes Reaches
    gather_good e asked =
        way_with (is_carried node.held) (told_client node (message.Gathered (record { session = e; held = node.held }))) (ignored node) Good
        (λ carried. record { reaches = tt; holds = holds; memory = there; outs = ((refl, asked.0, asked.1, carried), tt) }) (λ many. nothing)

    -- ---- a base is staged

    memory_more : (new : Base) → BaseMore shape g c node.held new (changed shape node.held (AddsBase new)) → (o : Option Memory) → WhereSome (Knows node.held) o → WhereSome (Knows (changed shape node.held (AddsBase new))) o
    unfolding changed
    memory_more new more None r = tt
    memory_more new more (Some m) r = record {
      positive = r.positive;
      session = r.session;
      parts = r.parts;
      whole = r.whole;
      early = r.early;
      opened = more.opened m.replica.view r.opened;
      leads = subst (λ p. LeaderStands shape v c votes claims node.held.session p m.leader) (sym more.place) r.leads;
      begun = r.begun;
    }

    abbrev NoneOf : ℕ → Type 0
    NoneOf e = filter (λ (b : Base). b.rec.header.session == e) node.held.bases ≡ []

    staged_good : (rec : Record) (blocks : List (List ℕ)) → StartFits c rec → node.held.session < rec.header.session → rec.header.region ≡ g → NoneOf rec.header.session
        → has_shape shape blocks ≡ true → root_of shape.height blocks ≡ rec.header.root → Good (staged node rec blocks)
    unfolding after_changes Reaches
    staged_good rec blocks start up region none shaped root =
        let new : Base = record { rec = rec; blocks = blocks } in
        let stands : BaseStands shape g c node.held.session new = record {
          not_past = omega arith;
          stands = and_both (is_of rec.header.session g rec.header) (has_shape shape blocks)
              (and_both (rec.header.session == rec.header.session) (rec.header.region == g) (eq-eqb rec.header.session rec.header.session refl) (eq-eqb rec.header.region g region)) shaped;
          root = root;
          inside = start_inside shape c rec start;
          fits = inl start;
        } in
        let more : BaseMore shape g c node.held new (changed shape node.held (AddsBase new)) = base_more shape g c node.held new holds stands up none start in
        record {
          reaches = (inr (inr (inl more.image)), more.holds, tt);
          holds = more.holds;
          memory = memory_more new more node.memory there;
          outs = ((more.staged, start.known, start.spelled.widths.header_typed.session_width), tt);
        }

    says_staged_good : (e : ℕ) → Mem e (later_sessions node.held) → Mem e c.known → e < 2 ^ 64 → Good (says_staged node e)
    unfolding after_changes Reaches
    says_staged_good e later known small = record { reaches = tt; holds = holds; memory = there; outs = ((later, known, small), tt) }

    module _ (base : Base) (start : StartFits c base.rec) (up : node.held.session < base.rec.header.session) (region : base.rec.header.region ≡ g) where
      view_shaped : (m : Memory) → Knows node.held m → has_shape shape m.replica.view.blocks ≡ true
      view_shaped m r =
          let o : Opened shape g c node.held m.replica.view = r.opened in
          chain_shaped shape g c node.held.session (view_of_base o.base) node.held.parts m.replica.view
          (and_right (is_of o.base.rec.header.session g o.base.rec.header) (has_shape shape o.base.blocks) (opened_stands shape g c node.held m.replica.view holds o).stands) o.chain

      anew_good : NoneOf base.rec.header.session → Good (staged_anew shape node base)
      anew_good none =
          either_way (length base.blocks == 0) (option_map_or (λ m. staged_from shape node base.rec m) node.memory (ignored node)) (staged_whole shape node base) Good
          (where_way (Knows node.held) Good (λ m. staged_from shape node base.rec m) (ignored node) node.memory there
          (λ m r. way_with (bytes_eq (view_root shape m.replica.view) base.rec.header.root) (staged node base.rec m.replica.view.blocks) (ignored node) Good
          (λ pass. staged_good base.rec m.replica.view.blocks start up region none (view_shaped m r) ((bytes_eq-Decides (view_root shape m.replica.view) base.rec.header.root).0 pass)) (λ differs. nothing)) nothing)
          (way_with (has_shape shape base.blocks && bytes_eq (root_of shape.height base.blocks) base.rec.header.root) (staged node base.rec base.blocks) (ignored node) Good
          (λ pass. staged_good base.rec base.blocks start up region none (and_left (has_shape shape base.blocks) (bytes_eq (root_of shape.height base.blocks) base.rec.header.root) pass)
          ((bytes_eq-Decides (root_of shape.height base.blocks) base.rec.header.root).0 (and_right (has_shape shape base.blocks) (bytes_eq (root_of shape.height base.blocks) base.rec.header.root) pass))) (λ differs. nothing))

      none_of : base_held shape g base.rec.header.session node.held ≡ None → NoneOf base.rec.header.session
      none_of none =
          let e : ℕ = base.rec.header.session in
          filter_none (λ (b : Base). b.rec.header.session == e) node.held.bases
          (all_then (λ b. BaseStands shape g c node.held.session b × (stands_for shape g e b ≡ false)) (λ b. (b.rec.header.session == e) ≡ false)
          (λ b both. by_bool (b.rec.header.session == e) ((b.rec.header.session == e) ≡ false)
          (λ same. absurd (differ (sym (subst (λ x. stands_for shape g x b ≡ true) (eqb-true b.rec.header.session e same) both.0.stands) ∙ both.1))) (λ off. off)) node.held.bases
          (all_zip (BaseStands shape g c node.held.session) (λ b. stands_for shape g e b ≡ false) node.held.bases holds.bases (none_found (λ b. stands_for shape g e b) node.held.bases none)))

      later_of : (old : Base) → IsAmong old node.held.bases → stands_for shape g base.rec.header.session old ≡ true → Mem base.rec.header.session (later_sessions node.held)
      later_of old among stands =
          let e : ℕ = base.rec.header.session in
          let same : old.rec.header.session ≡ e = eqb-true old.rec.header.session e (and_left (old.rec.header.session == e) (old.rec.header.region == g) (and_left (is_of e g old.rec.header) (has_shape shape old.blocks) stands)) in
          let over : node.held.session < old.rec.header.session = omega arith in
          mem_reverse e (map (λ (b : Base). b.rec.header.session) (later_bases node.held))
          (subst (λ x. Mem x (map (λ (b : Base). b.rec.header.session) (later_bases node.held))) same
          (mem_map (λ (b : Base). b.rec.header.session) old (later_bases node.held) (mem_among old (later_bases node.held)
          (among_filter-in (λ b. nat_lt node.held.session b.rec.header.session) node.held.bases old among (lt-ltb node.held.session old.rec.header.session over)))))

      held_good : (o : Option Base) → base_held shape g base.rec.header.session node.held ≡ o → Good (option_map_or (λ held. staged_again node base.rec held) o (staged_anew shape node base))
      held_good None none = anew_good (none_of none)
      held_good (Some old) some =
          let found = subst (λ (o : Option Base). OfSome (λ b. IsAmong b node.held.bases × (stands_for shape g base.rec.header.session b ≡ true)) o) some (found_among (λ b. stands_for shape g base.rec.header.session b) node.held.bases) in
          either_way (same_record old.rec base.rec) (says_staged node base.rec.header.session) (ignored node) Good (says_staged_good base.rec.header.session (later_of old found.0 found.1) start.known start.spelled.widths.header_typed.session_width) nothing

    stage_good : (base : Base) → StartFits c base.rec → Good (by_stage shape g node base)
    unfolding by_stage
    stage_good base start =
        way_with (is_staged_here g node base.rec.header) (option_map_or (λ held. staged_again node base.rec held) (base_held shape g base.rec.header.session node.held) (staged_anew shape node base)) (ignored node) Good
        (λ here. held_good base start (ltb-true node.held.session base.rec.header.session (and_left (nat_lt node.held.session base.rec.header.session) (base.rec.header.region == g) here))
        (eqb-true base.rec.header.region g (and_right (nat_lt node.held.session base.rec.header.session) (base.rec.header.region == g) here)) (base_held shape g base.rec.header.session node.held) refl)
        (λ elsewhere. nothing)

    -- ---- the switch to a session

    says_switched_good : (e : ℕ) → e ≡ node.held.session → Good (says_switched node e)
    unfolding after_changes Reaches
    says_switched_good e same = record { reaches = tt; holds = holds; memory = there; outs = (sym same, tt) }

    switched_good : (e : ℕ) (base : Base) → Mem e c.switches → node.held.session < e → IsAmong base node.held.bases × (stands_for shape g e base ≡ true) → Good (switched shape g node e)
    unfolding after_changes Reaches
    switched_good e base told up found =
        let same : base.rec.header.session ≡ e = eqb-true base.rec.header.session e (and_left (base.rec.header.session == e) (base.rec.header.region == g) (and_left (is_of e g base.rec.header) (has_shape shape base.blocks) found.1)) in
        let to : SwitchedTo shape g c node.held e base (changed shape node.held (SwitchesTo e)) = switch_to shape g c node.held e base holds up found.0 same in
        record {
          reaches = (inr (inr (inr (inl (to.image told)))), to.holds, tt);
          holds = to.holds;
          memory = fresh_stands (changed shape node.held (SwitchesTo e)) to.holds;
          outs = (switched_session shape node.held e, tt);
        }

    switch_good : (e : ℕ) → Mem e c.switches → Good (by_switch shape g node e)
    unfolding by_switch
    switch_good e told =
        way_with (e == node.held.session) (says_switched node e) (if nat_lt node.held.session e then option_map_or (λ base. switched shape g node e) (base_held shape g e node.held) (ignored node) else ignored node) Good
        (λ same. says_switched_good e (eqb-true e node.held.session same))
        (λ other. way_with (nat_lt node.held.session e) (option_map_or (λ base. switched shape g node e) (base_held shape g e node.held) (ignored node)) (ignored node) Good
        (λ above. of_base (ltb-true node.held.session e above) (base_held shape g e node.held) (found_among (λ b. stands_for shape g e b) node.held.bases)) (λ under. nothing))
      where
        of_base : (up : node.held.session < e) (o : Option Base) → OfSome (λ b. IsAmong b node.held.bases × (stands_for shape g e b ≡ true)) o → Good (option_map_or (λ base. switched shape g node e) o (ignored node))
        of_base up None found = nothing
        of_base up (Some base) found = switched_good e base told up found

    -- ---- any input

    client_good : (m : Message) → ClientFits c m → Good (from_client shape g node m)
    client_good (message.Part m) fits = in_session_good (by_part shape g m.rec) (λ k r. part_stands shape v g c votes claims numbered node.held m.rec k holds r fits)
    client_good (message.Ask m) fits = in_session_good (by_ask shape g m) (λ k r. ask_stands shape v g c votes claims numbered node.held m k holds r)
    client_good (message.Dump m) fits = in_session_good (by_dump g m) (λ k r. dump_stands shape v g c votes claims numbered node.held m k holds r)
    client_good (message.Gather m) fits = gather_good m.session fits
    client_good (message.Stage m) fits = stage_good m.base fits
    client_good (message.Switch m) fits = switch_good m.session fits
    client_good (message.Prepared m) fits = nothing
    client_good (message.Committed m) fits = nothing
    client_good (message.Answer m) fits = nothing
    client_good (message.Gathered m) fits = nothing
    client_good (message.Staged m) fits = nothing
    client_good (message.Switched m) fits = nothing
    client_good (message.Dumped m) fits = nothing

    node_good : (name : NodeName) (m : Message) → NodeFits shape v votes claims name m → Good (from_node shape node name m)
    node_good name (message.Prepared m) fits = in_session_good (by_vote shape name m) (λ k r. vote_stands shape v g c votes claims numbered node.held name m k holds r fits)
    node_good name (message.Committed m) fits = in_session_good (by_claim shape name m) (λ k r. claim_stands shape v g c votes claims numbered node.held name m k holds r fits)
    node_good name (message.Part m) fits = nothing
    node_good name (message.Ask m) fits = nothing
    node_good name (message.Answer m) fits = nothing
    node_good name (message.Gather m) fits = nothing
    node_good name (message.Gathered m) fits = nothing
    node_good name (message.Stage m) fits = nothing
    node_good name (message.Staged m) fits = nothing
    node_good name (message.Switch m) fits = nothing
    node_good name (message.Switched m) fits = nothing
    node_good name (message.Dump m) fits = nothing
    node_good name (message.Dumped m) fits = nothing

    result_good : (from : Sender) (r : Result Message MessageError) → ResultFits shape v c votes claims from r → Good (from_result shape g node from r)
    result_good sender.Client (Ok m) fits = client_good m fits
    result_good (sender.Node name) (Ok m) fits = either_way (is_node shape name) (from_node shape node name m) (ignored node) Good (node_good name m fits) nothing
    result_good from (Err e) fits = nothing

    -- Every handling of what fits keeps what stands; its changes are the abstract model's, and its messages fit.
    pub planned_stands : (input : Input) → InputFits shape v c votes claims input → Good (planned shape g node input)
    unfolding planned
    planned_stands (Receives from bytes) fits = result_good from (message_at bytes) fits
    planned_stands Ticks fits = in_session_good (by_tick shape) (λ k r. tick_stands shape v g c votes claims numbered node.held k holds r)
