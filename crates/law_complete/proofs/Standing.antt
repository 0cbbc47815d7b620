-- What stands of a server in a quiet run: its session, its bases and its image, as the bridge to the abstract model gives them.
use Rattle.std.proofs.Common.{◌≡◌, ◌∙◌, inl, inr, ⊎_elim, ℕ, suc, ◌+◌, ◌^◌, ◌<◌, ◌≤◌, ◌==◌, ◌&&◌, nat_le, cond, Bool, true, false, List, [], ◌∷◌, ◌++◌, map, Option, None, Some, refl, ap, sym, subst, arith, eq-eqb, eqb-true, length-append, le_trans, le_of_eq}
use Rattle.std.specs.Prelude.{nat_lt}
use Rattle.std.specs.List.{AllByRecursion, list_all}
use Rattle.std.proofs.lemmas.Bool.{true≢false, cases_lt, lt-ltb, ltb-true, le-leb}
use Rattle.std.proofs.lemmas.List.{reverse-reverse, take_all}
use Rattle.salus_types.specs.Volume.{Shape, regions}
use Rattle.salus_types.specs.declared.names.NodeName.{NodeName}
use Rattle.salus_types.specs.declared.names.Sender.TheVariants as sender
use Rattle.salus_types.specs.declared.records.Base.{Base}
use Rattle.salus_types.specs.declared.records.Held.{Held}
use Rattle.salus_types.specs.declared.records.Record.{Record}
use Rattle.merkle_region.specs.Tree.{IsAmong, NoTwoCollide}
use Rattle.schedule_text.specs.Limits.{IsOfVolume, IsWithinLimits}
use Rattle.schedule_text.specs.declared.schedule.Volume.{Volume}
use Rattle.schedule_text.specs.declared.schedule.Event.{Event}
use Rattle.salus_model.specs.Following.{Posted}
use Rattle.salus_model.specs.Forgery.{IsTagged}
use Rattle.salus_model.specs.Guarding.{counts}
use Rattle.salus_model.specs.Hearing.{Past, judge_of, Staged, phase_of, news_since, stages}
use Rattle.salus_model.specs.Judge.{Judge}
use Rattle.salus_model.specs.Opening.{all_staged}
use Rattle.salus_model.specs.Quiet.{is_quiet}
use Rattle.client_rules.specs.State as state
use Rattle.replica_rules.proofs.Keeping.{OfHeld}
use Rattle.run_rules.specs.Knowing.{KnownNode}
use Rattle.list_lemmas.proofs.Members.{among_all, among_map, among_filter, among_range}
use Rattle.law_prefix.specs.Numbers.{Mem}
use Rattle.law_prefix.specs.World.{World}
use Rattle.law_prefix.specs.Good.{Good, ImageGood, HasBase}
use Rattle.law_prefix.proofs.Kept.{good_run}
use Rattle.kept_model.specs.Images.{later_bases, later_sessions, image_of}
use Rattle.kept_model.specs.Nodes.{node_number, region_of_node, node_of, volume_as}
use Rattle.kept_model.specs.Phases.{asked_of, switches_of}
use Rattle.law_records.proofs.Counted.{both_true}
use Rattle.law_records.proofs.Recovered.{mem_among, among_mem}
use Rattle.law_refined.specs.Standing.{IsSingle, BaseStands, HeldStands, NodeStands}
use Rattle.law_refined.proofs.Listed.{mem_map, mem_reverse}
use Rattle.law_matched.proofs.Numbering.{region_numbered, node_numbered}
use Rattle.law_phases.proofs.Moving.{told_listed}
use Rattle.law_kept.proofs.Along.{IsAlong}
use Rattle.std.specs.Prelude.{find, filter, length, not, bytes_eq, if◌then◌else◌}
use Rattle.std.specs.Option.{option_map_or, option_to_list}
use Rattle.std.specs.Cmp.Lexicographic.{pointwise}
use Rattle.std.proofs.lemmas.Option.{same_Some}
use Rattle.std.proofs.lemmas.Slice.Eq.{bytes_eq-Decides}
use Rattle.salus_types.specs.declared.records.Header.{Header}
use Rattle.salus_types.specs.declared.records.PlaceWrite.{PlaceWrite}
use Rattle.salus_types.specs.declared.records.Trim.{Trim}
use Rattle.client_tag.specs.Ranges.{IsTyped}
use Rattle.salus_message.specs.declared.wire.Message.{Message}
use Rattle.salus_message.specs.declared.wire.Message.TheVariants as message
use Rattle.salus_message.proofs.MessageLaws.{message_again}
use Rattle.merkle_region.specs.Tree.{root_of}
use Rattle.schedule_text.specs.Grammar.{session_of, sessions_of}
use Rattle.holding_model.specs.Fitting.{has_shape}
use Rattle.volume_model.specs.Contents.{Batch, all_regions, region_root, blocks_in, fold_batches}
use Rattle.volume_model.specs.Groups.{group_of}
use Rattle.volume_model.specs.Parts.{Session, contents_after, base_of}
use Rattle.volume_model.specs.Recovering.{is_of}
use Rattle.salus_model.specs.Forgery.{IsPartOf, IsBaseOf}
use Rattle.salus_model.specs.Hearing.{Phase}
use Rattle.salus_model.specs.Judge.{known_at}
use Rattle.client_rules.specs.State.{Letter, to_all}
use Rattle.client_rules.specs.Opening.{base_record, stage_letters}
use Rattle.replica_rules.specs.Views.{View, view_of_base, view_after, view_root}
use Rattle.replica_rules.specs.Nodes.{Memory, NodeState, stands_for, base_held}
use Rattle.replica_rules.specs.Rules.{Sending, Plan, ignored, told_client, same_run, same_header, same_record, is_carried, by_gather, says_staged, staged, staged_again, staged_whole, staged_from, staged_anew, is_staged_here, by_stage, says_switched, switched, by_switch}
use Rattle.list_lemmas.proofs.Each.{all_then}
use Rattle.list_lemmas.proofs.Members.{among_flat_map, find_among}
use Rattle.list_lemmas.proofs.Tests.{by_bool, way_with, and_left}
use Rattle.law_lemmas.proofs.Numbered.{IsSized, length-contents_after}
use Rattle.law_lemmas.proofs.Owned.{known-session}
use Rattle.law_lemmas.proofs.Settled.{EachKnown}
use Rattle.law_lines.specs.Mirrors.{MirrorsKnown, MirrorsStaging, MirrorsSwitching}
use Rattle.law_lines.proofs.Parted.{base-is}
use Rattle.law_handed.specs.Fitting.{IsSpelled}
use Rattle.law_prefix.specs.World.{Client}
use Rattle.law_refined.specs.Standing.{Chain, Opened}
use Rattle.law_refined.proofs.Listed.{filter_fewer}
use Rattle.law_refined.proofs.Chains.{goes_parts}
use Rattle.law_refined.proofs.Opens.{opened_among}
use Rattle.law_refined.proofs.Spelled.{is_held, session_small, bases_spelled, parts_spelled}
use Rattle.law_matched.proofs.Sound.{IsOwnBase}
use Rattle.law_phases.specs.Moving.{OpensAsked}
use Rattle.law_kept.proofs.SaidSound.{own_base}
use Rattle.law_covered.proofs.Right.{HasRight}
use Rattle.law_covered.proofs.RightNode.{IsRightView, view_right}
use Rattle.law_complete.proofs.OpeningKnown.{EachPlain, plain_shaped}
use Rattle.law_complete.proofs.NodeOwes.{IsAnsweredBy}
use Rattle.law_complete.proofs.OpeningQuietly.{IsUnreplaced, counts_quiet}

-- ---- small facts

-- a base that passes a test is found
pub found_some : {A : Type 0} (test : A → Bool) (xs : List A) (x : A) → IsAmong x xs → test x ≡ true → (y : A) × (find test xs ≡ Some y)
found_some test [] x among pass = absurd among
found_some test (y ∷ xs) x (inl same) pass = (y, ap (λ (b : Bool). if b then Some y else find test xs) (sym (ap test same) ∙ pass))
found_some test (y ∷ xs) x (inr later) pass =
    let rest = found_some test xs x later pass in
    by_bool (test y) ((z : _) × (find test (y ∷ xs) ≡ Some z)) (λ hit. (y, ap (λ (b : Bool). if b then Some y else find test xs) hit))
    (λ miss. (rest.0, ap (λ (b : Bool). if b then Some y else find test xs) miss ∙ rest.1))

-- those that pass a test, and those that don't
split_length : {A : Type 0} (test : A → Bool) (xs : List A) → length xs ≡ length (filter test xs) + length (filter (λ x. not (test x)) xs)
split_length test [] = refl
split_length test (x ∷ xs) = by (test x) (split_length test xs) where
  by : (b : Bool) → length xs ≡ length (filter test xs) + length (filter (λ x. not (test x)) xs)
      → suc (length xs) ≡ length (cond b (x ∷ filter test xs) (filter test xs)) + length (cond (not b) (x ∷ filter (λ y. not (test y)) xs) (filter (λ y. not (test y)) xs))
  by true rest = omega (arith, rest)
  by false rest = omega (arith, rest)

-- where no two have one number, there are at most as many as there are numbers
few_distinct : {A : Type 0} (number : A → ℕ) (ys : List ℕ) (xs : List A) → ((e : ℕ) → length (filter (λ x. number x == e) xs) ≤ 1) → ((x : A) → IsAmong x xs → IsAmong (number x) ys) → length xs ≤ length ys
few_distinct number [] [] few inside = omega arith
few_distinct number [] (x ∷ xs) few inside = absurd (inside x (inl refl))
few_distinct number (y ∷ ys) xs few inside =
    let rest = filter (λ x. not (number x == y)) xs in
    let below : length rest ≤ length ys =
    few_distinct number ys rest (λ e. le_trans (filter_fewer (λ x. number x == e) (λ x. not (number x == y)) xs) (few e))
    (λ x among. let was = among_filter (λ z. not (number z == y)) x xs among in
    ⊎_elim (λ (same : number x ≡ y). absurd (true≢false (sym was.1 ∙ ap not (eq-eqb (number x) y same)))) (λ (later : IsAmong (number x) ys). later) (inside x was.0)) in
    let one = few y in
    let whole : length xs ≡ length (filter (λ x. number x == y) xs) + length rest = split_length (λ x. number x == y) xs in
    omega (arith, below, one, whole)

-- an event asks for at most one session
few_sessions : (events : List Event) → length (sessions_of events) ≤ length events
few_sessions [] = omega arith
few_sessions (e ∷ events) =
    let rest = few_sessions events in
    let one = at_most (session_of e) in
    let both : length (option_to_list (session_of e) ++ sessions_of events) ≡ length (option_to_list (session_of e)) + length (sessions_of events) = length-append (option_to_list (session_of e)) (sessions_of events) in
    omega (arith, rest, one, both)
  where
    at_most : (o : Option ℕ) → length (option_to_list o) ≤ 1
    at_most None = omega arith
    at_most (Some x) = omega arith

-- each part of a chain goes beyond the one before
chain_length : (shape : Shape) (g : ℕ) (c : Client) (e : ℕ) (view : View) (parts : List Record) (now : View) → Chain shape g c e view parts now → length parts + view.number ≤ now.number
unfolding Chain
chain_length shape g c e view [] now chain = let same : view.number ≡ now.number = ap (λ (v : View). v.number) chain in omega (arith, same)
chain_length shape g c e view (rec ∷ parts) now chain =
    let over : view.number < rec.header.seq = (goes_parts shape g view rec chain.0.goes).over in
    let rest : length parts + rec.header.seq ≤ now.number = chain_length shape g c e (view_after shape view rec) parts now chain.1 in
    omega (arith, over, rest)

-- ---- the record of a base that is staged

pub record SaysBase (volume : Volume) (e seq : ℕ) (contents : List (List ℕ)) (g : ℕ) : Type 0 where
  pub session : (base_record volume e seq contents g).header.session ≡ e
  pub region : (base_record volume e seq contents g).header.region ≡ g
  pub root : (base_record volume e seq contents g).header.root ≡ region_root volume.geometry contents g
  pub writes : (base_record volume e seq contents g).writes ≡ []
  pub run : (base_record volume e seq contents g).run ≡ None

pub base_says : (volume : Volume) (e seq : ℕ) (contents : List (List ℕ)) (g : ℕ) → SaysBase volume e seq contents g
unfolding base_record
base_says volume e seq contents g = record { session = refl; region = refl; root = refl; writes = refl; run = refl }

bytes_same : (xs : List ℕ) → bytes_eq xs xs ≡ true
bytes_same xs = (bytes_eq-Decides xs xs).1 refl

header_same : (h : Header) → same_header h h ≡ true
header_same h =
    both_true _ (bytes_eq h.top h.top)
    (both_true _ (bytes_eq h.root h.root)
    (both_true _ (bytes_eq h.touched h.touched)
    (both_true _ (bytes_eq h.fronts h.fronts)
    (both_true _ (h.leader_before == h.leader_before)
    (both_true _ (h.previous == h.previous)
    (both_true _ (h.region == h.region)
    (both_true _ (h.seq == h.seq)
    (both_true (h.version == h.version) (h.session == h.session) (eq-eqb h.version h.version refl) (eq-eqb h.session h.session refl))
    (eq-eqb h.seq h.seq refl))
    (eq-eqb h.region h.region refl))
    (eq-eqb h.previous h.previous refl))
    (eq-eqb h.leader_before h.leader_before refl))
    (bytes_same h.fronts))
    (bytes_same h.touched))
    (bytes_same h.root))
    (bytes_same h.top)

-- a record without writes is the same as itself
record_same : (rec : Record) → rec.writes ≡ [] → rec.run ≡ None → same_record rec rec ≡ true
unfolding same_record
record_same rec writes run =
    both_true _ (bytes_eq rec.tag rec.tag)
    (both_true _ (same_run rec.run rec.run)
    (both_true (same_header rec.header rec.header) (pointwise (λ (v w : PlaceWrite). (v.place == w.place) && bytes_eq v.bytes w.bytes) rec.writes rec.writes) (header_same rec.header)
    (ap (λ (l : List PlaceWrite). pointwise (λ (v w : PlaceWrite). (v.place == w.place) && bytes_eq v.bytes w.bytes) l l) writes))
    (ap (λ (o : Option Trim). same_run o o) run))
    (bytes_same rec.tag)

-- the message that goes to a node, of those that stage a session
pub record IsStageTo (volume : Volume) (e seq : ℕ) (contents : List (List ℕ)) (carried : ℕ → List (List ℕ)) (name : NodeName) (m : Message) : Type 0 where
  pub inside : name.region < regions volume.geometry
  pub is : m ≡ message.Stage (record { base = record { rec = base_record volume e seq contents name.region; blocks = carried name.region } })

pub stage_to : (volume : Volume) (e seq : ℕ) (contents : List (List ℕ)) (carried : ℕ → List (List ℕ)) (name : NodeName) (m : Message)
    → IsAmong (record { to = name; message = m }) (stage_letters volume e seq contents carried) → IsStageTo volume e seq contents carried name m
stage_to volume e seq contents carried name m among =
    let of : ℕ → Message = λ g. message.Stage (record { base = record { rec = base_record volume e seq contents g; blocks = carried g } }) in
    let region = among_flat_map (λ g. to_all (group_of volume.geometry g) (of g)) (record { to = name; message = m }) (all_regions volume.geometry) among in
    let node = among_map (λ (k : NodeName). record { to = k; message = of region.0 }) (record { to = name; message = m }) (group_of volume.geometry region.0) region.2 in
    let replica = among_map (λ (k : ℕ). record { region = region.0; replica = k }) node.0 _ node.1 in
    let here : name.region ≡ region.0 = ap (λ (l : Letter). l.to.region) node.2 ∙ ap (λ (k : NodeName). k.region) replica.2 in
    let low = among_range (regions volume.geometry) 0 region.0 region.1 in
    let high : region.0 < 0 + regions volume.geometry = low.1 in
    record { inside = omega (arith, here, high); is = ap (λ (l : Letter). l.message) node.2 ∙ ap of (sym here) }

-- the blocks of a session that begins have the shape of a region
pub begun_shaped : (shape : Shape) (events : List Event) (judge : Judge) (b : state.Beginning) → MirrorsKnown judge b → EachPlain shape events judge → EachKnown judge (IsSized shape) → (g : ℕ) → g < regions shape
    → has_shape shape (blocks_in shape b.contents g) ≡ true
begun_shaped shape events judge b m plain sized g inside =
    let k : Session = m.known in
    let count = m.count in
    let all : contents_after k b.seq ≡ b.contents = ap (λ (l : List Batch). fold_batches k.origin l) (take_all b.seq k.list (omega (arith, count))) ∙ sym m.contents in
    subst (λ (l : List (List ℕ)). has_shape shape (blocks_in shape l g) ≡ true) all
    (plain_shaped shape events k (plain k b.session m.at) b.seq g (length-contents_after shape k (sized k b.session m.at) b.seq) inside)

-- a base of session e, above the open one
pub record LaterBase (held : Held) (e : ℕ) : Type 0 where
  pub base : Base
  pub among : IsAmong base held.bases
  pub session : base.rec.header.session ≡ e
  pub above : held.session < e

pub later_base : (held : Held) (e : ℕ) → Mem e (later_sessions held) → LaterBase held e
later_base held e there =
    let sessions : List ℕ = map (λ (base : Base). base.rec.header.session) (later_bases held) in
    let listed : Mem e sessions = subst (Mem e) (reverse-reverse sessions) (mem_reverse e (later_sessions held) there) in
    let from = among_map (λ (base : Base). base.rec.header.session) e (later_bases held) (mem_among e sessions listed) in
    let kept = among_filter (λ (base : Base). nat_lt held.session base.rec.header.session) from.0 held.bases from.1 in
    record {
      base = from.0;
      among = kept.0;
      session = sym from.2;
      above = subst (λ (s : ℕ). held.session < s) (sym from.2) (ltb-true held.session from.0.rec.header.session kept.1);
    }

module _ (volume : Volume) (events : List Event) (posts : List Posted) (limits : IsWithinLimits (record { volume = volume; events = events })) (strings : List (List ℕ)) (none : NoTwoCollide strings)
    (quiet : list_all is_quiet events ≡ true) (history : List Past) (n top : ℕ) (c : state.Client) (known : NodeName → KnownNode) (sent : ℕ)
    (a : IsAlong volume events posts limits strings none history n top c known sent) (unreplaced : AllByRecursion IsUnreplaced history)
    (name : NodeName) (inside : IsOfVolume volume.geometry name) (speaks : (known name).silent ≡ false) where
  abbrev shape : Shape
  shape = volume.geometry

  abbrev judge : Judge
  judge = judge_of volume.geometry events history

  abbrev w : World
  w = a.reached.now

  abbrev r : ℕ
  r = node_number volume.geometry name

  abbrev held : Held
  held = (known name).state.held

  pub good : Good (volume_as shape events) w
  good = (good_run (volume_as shape events) a.reached.start w a.reached.run a.reached.begun).0

  pub stands : NodeStands shape (volume_as shape events) name.region w.client w.votes w.claims (known name)
  stands = a.reached.stand name inside

  pub holds : HeldStands shape name.region w.client held
  holds = stands.state.holds

  contents_are : (known name).contents ≡ held ∷ []
  contents_are = subst (λ (b : Bool). IsSingle b held (known name).contents) speaks stands.single

  pub is_content : IsAmong held (known name).contents
  is_content = subst (λ (l : List Held). IsAmong held l) (sym contents_are) (inl refl)

  pub region_is : region_of_node shape r ≡ name.region
  region_is = region_numbered shape limits.volume name inside

  pub counting : counts events history name ≡ true
  counting = counts_quiet events quiet history unreplaced name

  pub counts_now : w.counts r ≡ true
  counts_now =
      a.reached.matches.counts r
      ∙ both_true (nat_lt (region_of_node shape r) (regions shape)) (counts events history (node_of shape r))
      (ap (λ (g : ℕ). nat_lt g (regions shape)) region_is ∙ lt-ltb name.region (regions shape) inside.0)
      (ap (λ (m : NodeName). counts events history m) (node_numbered shape limits.volume name inside) ∙ counting)

  pub image_there : Mem (image_of held) (w.images r)
  image_there =
      subst (Mem (image_of held)) (sym (a.reached.matches.images r ∙ ap (λ (m : NodeName). map (λ (h : Held). image_of h) (known m).contents) (node_numbered shape limits.volume name inside)))
      (mem_map (λ (h : Held). image_of h) held (known name).contents (among_mem held (known name).contents is_content))

  pub image : ImageGood w.client name.region (image_of held)
  image = subst (λ (g : ℕ). ImageGood w.client g (image_of held)) region_is (good.nodes r (image_of held) image_there)

  -- the session served, or a later one
  pub above : w.client.served ≤ held.session
  above = good.above r counts_now (image_of held) image_there

  pub positive : 0 < held.session
  positive = let up = good.client.served_up in let low = above in omega (arith, up, low)

  -- and no later one than was asked for
  pub session_low : held.session ≤ asked_of history
  session_low = le_trans (good.client.known_asked held.session image.known) (le_of_eq a.reached.matches.client.asked)

  -- what is known is at most that
  pub known_low : (f : ℕ) → Mem f w.client.known → f ≤ asked_of history
  known_low f there = le_trans (good.client.known_asked f there) (le_of_eq a.reached.matches.client.asked)

  pub owns : OfHeld (λ (rec : Record). IsTagged shape volume.key judge rec) held
  owns = (a.owns name inside).held

  -- where Switch was sent, a base is held or the session is open
  pub switched_base : (e : ℕ) → phase_of history ≡ Staged e → all_staged shape e (news_since stages history) ≡ true → HasBase (image_of held) e
  switched_base e phase all = good.bases e (a.reached.matches.client.switched_back e (told_listed shape history e phase all)) r counts_now (image_of held) image_there

  -- a session above the one served was switched to
  pub was_switched : w.client.served < held.session → Mem held.session (switches_of shape history)
  was_switched up = a.reached.matches.client.switched_there held.session (image.origin up)

  -- ---- what is answered

  module _ (plain : EachPlain volume.geometry events (judge_of volume.geometry events history)) (right : HasRight volume.geometry (judge_of volume.geometry events history) name.region (known name).state.held) where
    abbrev node : NodeState
    node = (known name).state

    abbrev sized : EachKnown judge (IsSized volume.geometry)
    sized = a.standing.settled.sized

    -- few bases are held, since their sessions differ and are of the schedule
    few_bases : length held.bases ≤ 65537
    few_bases =
        let all : length held.bases ≤ length (1 ∷ sessions_of events) = few_distinct (λ (base : Base). base.rec.header.session) (1 ∷ sessions_of events) held.bases holds.few listed in
        let some = few_sessions events in
        let few = limits.few in
        omega (arith, all, some, few)
      where
        listed : (base : Base) → IsAmong base held.bases → IsAmong base.rec.header.session (1 ∷ sessions_of events)
        listed base among =
            let own : IsOwnBase shape volume.key judge name.region base = own_base shape volume.key judge name.region w.client held holds owns base among in
            let same : own.known.session ≡ base.rec.header.session = known-session judge base.rec.header.session own.known own.at in
            subst (λ (e : ℕ). IsAmong e (1 ∷ sessions_of events)) same (plain own.known base.rec.header.session own.at).scheduled

    -- and few parts, since each has a number of its own
    few_parts : length held.parts ≤ 65536
    few_parts =
        ⊎_elim (λ (closed : (held.session ≡ 0) × (held.parts ≡ [])). let none : length held.parts ≡ 0 = ap (λ (l : List Record). length l) closed.1 in omega (arith, none))
        (λ (open_view : (0 < held.session) × (view : View) × Opened shape name.region w.client held view).
        let o : Opened shape name.region w.client held open_view.1 = open_view.2 in
        let view : IsRightView shape volume.key judge sized name.region inside.0 w.client held.session open_view.1 =
        view_right shape volume.key judge sized name.region inside.0 w.client held holds owns right open_view.1 o (opened_among shape name.region w.client held open_view.1 o).0 in
        let long = chain_length shape name.region w.client held.session (view_of_base o.base) held.parts open_view.1 o.chain in
        let within = view.within in
        let few = a.countable.few view.known held.session view.at in
        let low = a.countable.low in
        let most = limits.few in
        omega (arith, long, within, few, low, most)) holds.open_is

    carried : is_carried held ≡ true
    carried =
        let bases = few_bases in
        let parts = few_parts in
        both_true (nat_le (length held.bases) 1048576) (nat_le (length held.parts) 1048576) (le-leb (length held.bases) 1048576 (omega (arith, bases))) (le-leb (length held.parts) 1048576 (omega (arith, parts)))

    pub gather_answered : (g : state.Gathering) → g.session < 2 ^ 64 → IsAnsweredBy shape (state.Gathers g) name node (message.Gather (record { session = g.session }))
    unfolding by_gather
    gather_answered g low = record {
      reply = message.Gathered (record { session = g.session; held = held });
      sent = way_with (is_carried held) (told_client node (message.Gathered (record { session = g.session; held = held }))) (ignored node)
          (λ (p : Plan). IsAmong (record { to = sender.Client; message = message.Gathered (record { session = g.session; held = held }) }) p.outs) (λ is. inl refl) (λ isnt. absurd (true≢false (sym carried ∙ isnt)));
      again = message_again (message.Gathered (record { session = g.session; held = held })) (is_held shape limits.volume name.region w.client held holds carried) (
        low,
        session_small shape limits.volume name.region w.client held holds,
        all_then (λ (base : Base). IsSpelled base.rec) (λ (base : Base). IsTyped base.rec) (λ base spelled. spelled.widths) held.bases (bases_spelled shape limits.volume name.region w.client held holds),
        all_then IsSpelled IsTyped (λ rec spelled. spelled.widths) held.parts (parts_spelled shape limits.volume name.region w.client held holds),
      );
      of = (held, refl);
    }

    -- a base that stands for a session is found
    base_found : (base : Base) → IsAmong base held.bases → (old : Base) × (base_held shape name.region base.rec.header.session held ≡ Some old)
    base_found base among =
        let stand : BaseStands shape name.region w.client held.session base = among_all (BaseStands shape name.region w.client held.session) held.bases base among holds.bases in
        found_some (λ b. stands_for shape name.region base.rec.header.session b) held.bases base among stand.stands

    -- it says that it switched
    abbrev SwitchSent : state.Beginning → Plan → Type 0
    SwitchSent b p = IsAmong (record { to = sender.Client; message = message.Switched (record { session = b.session }) }) p.outs

    pub switch_answered : (b : state.Beginning) → MirrorsSwitching shape history judge b → b.session < 2 ^ 64 → IsAnsweredBy shape (state.Switches b) name node (message.Switch (record { session = b.session }))
    unfolding by_switch
    switch_answered b m low = record {
      reply = message.Switched (record { session = b.session });
      sent = way_with (b.session == held.session) (says_switched node b.session)
          (if nat_lt held.session b.session then option_map_or (λ base. switched shape name.region node b.session) (base_held shape name.region b.session held) (ignored node) else ignored node) (SwitchSent b) (λ same. inl refl)
          (λ other. by other base);
      again = message_again (message.Switched (record { session = b.session })) tt low;
      of = refl;
    }
      where
        base : HasBase (image_of held) b.session
        base = switched_base b.session m.phase m.staged

        asked : asked_of history ≡ b.session
        asked = subst (λ (phase : Phase). OpensAsked phase (asked_of history)) m.phase a.opening

        by : (b.session == held.session) ≡ false → HasBase (image_of held) b.session
            → SwitchSent b (if nat_lt held.session b.session then option_map_or (λ base. switched shape name.region node b.session) (base_held shape name.region b.session held) (ignored node) else ignored node)
        by other (inl later) =
            let one : LaterBase held b.session = later_base held b.session later in
            let found : (old : Base) × (base_held shape name.region b.session held ≡ Some old) =
            subst (λ (e : ℕ). (old : Base) × (base_held shape name.region e held ≡ Some old)) one.session (base_found one.base one.among) in
            subst (λ (t : Bool). SwitchSent b (if t then option_map_or (λ base. switched shape name.region node b.session) (base_held shape name.region b.session held) (ignored node) else ignored node)) (sym (lt-ltb held.session b.session one.above))
            (subst (λ (o : Option Base). SwitchSent b (option_map_or (λ base. switched shape name.region node b.session) o (ignored node))) (sym found.1) (inl refl))
        by other (inr up) =
            let high : b.session ≤ held.session = up in
            let most = session_low in
            let is = asked in
            absurd (true≢false (sym (eq-eqb b.session held.session (omega (arith, high, most, is))) ∙ other))

    -- ---- a base is staged

    module _ (b : state.Beginning) (m : MirrorsStaging volume.geometry history (judge_of volume.geometry events history) b) (young : (judge_of volume.geometry events history).now.session < b.session)
        (unswitched : Mem b.session (switches_of volume.geometry history) → ⊥) where
      staged_asked : asked_of history ≡ b.session
      staged_asked = subst (λ (phase : Phase). OpensAsked phase (asked_of history)) m.phase a.opening

      -- the session isn't open at the server
      pub staged_above : held.session < b.session
      staged_above = elim (cases_lt held.session b.session) [
        | inl below ↦ below
        | inr up ↦
            let most = session_low in
            let is = staged_asked in
            let same : held.session ≡ b.session = omega (arith, most, is, up) in
            let served : w.client.served ≡ judge.now.session = a.reached.matches.client.served in
            let late = young in
            absurd (unswitched (subst (λ (e : ℕ). Mem e (switches_of shape history)) same (was_switched (omega (arith, same, served, late)))))
      ]

      abbrev rec : Record
      rec = base_record volume b.session b.seq b.contents name.region

      says : SaysBase volume b.session b.seq b.contents name.region
      says = base_says volume b.session b.seq b.contents name.region

      abbrev out : Sending
      out = record { to = sender.Client; message = message.Staged (record { session = rec.header.session }) }

      abbrev StageSent : Plan → Type 0
      StageSent p = IsAmong out p.outs

      -- a base of the session that is held has the same record
      same_base : (old : Base) → IsAmong old held.bases → old.rec.header.session ≡ b.session → old.rec ≡ rec
      same_base old among session =
          let own : IsOwnBase shape volume.key judge name.region old = own_base shape volume.key judge name.region w.client held holds owns old among in
          let same : own.known ≡ m.begun.known = same_Some own.known m.begun.known (sym own.at ∙ (ap (known_at judge) session ∙ m.begun.at)) in
          ⊎_elim (λ (part : IsPartOf shape volume.key own.known name.region old.rec).
          let above : own.known.base < part.s = part.own in
          let within : part.s ≤ length own.known.list = part.within in
          let base : own.known.base ≡ b.seq = ap (λ (k : Session). k.base) same ∙ m.begun.base in
          let long : length own.known.list ≡ b.seq = ap (λ (k : Session). length k.list) same ∙ m.begun.count in
          absurd (omega (arith, above, within, base, long)))
          (λ (base : IsBaseOf shape volume.key own.known name.region old.rec).
          base.is ∙ (ap (λ (k : Session). base_of shape volume.key k name.region) same ∙ sym (base-is volume judge b m.begun name.region))) own.own

      held_again : (old : Base) → base_held shape name.region rec.header.session held ≡ Some old → StageSent (staged_again node rec old)
      held_again old is =
          let found = find_among (λ base. stands_for shape name.region rec.header.session base) old held.bases is in
          let of : is_of rec.header.session name.region old.rec.header ≡ true = and_left (is_of rec.header.session name.region old.rec.header) (has_shape shape old.blocks) found.1 in
          let session : old.rec.header.session ≡ rec.header.session = eqb-true old.rec.header.session rec.header.session (and_left (old.rec.header.session == rec.header.session) (old.rec.header.region == name.region) of) in
          let same : old.rec ≡ rec = same_base old found.0 (session ∙ says.session) in
          let yes : same_record old.rec rec ≡ true = subst (λ (k : Record). same_record k rec ≡ true) (sym same) (record_same rec says.writes says.run) in
          way_with (same_record old.rec rec) (says_staged node rec.header.session) (ignored node) StageSent (λ is. inl refl) (λ isnt. absurd (true≢false (sym yes ∙ isnt)))

      -- with all blocks of the region, or with none where the server's view has them
      anew : (blocks : List (List ℕ)) → ((length blocks == 0) ≡ true → (memory : Memory) × (node.memory ≡ Some memory) × (view_root shape memory.replica.view ≡ rec.header.root))
          → ((length blocks == 0) ≡ false → (has_shape shape blocks ≡ true) × (root_of shape.height blocks ≡ rec.header.root)) → StageSent (staged_anew shape node (record { rec = rec; blocks = blocks }))
      anew blocks empty whole =
          way_with (length blocks == 0) (option_map_or (λ k. staged_from shape node rec k) node.memory (ignored node)) (staged_whole shape node (record { rec = rec; blocks = blocks })) StageSent
          (λ is.
          let e = empty is in
          subst (λ (o : Option Memory). StageSent (option_map_or (λ k. staged_from shape node rec k) o (ignored node))) (sym e.1)
          (way_with (bytes_eq (view_root shape e.0.replica.view) rec.header.root) (staged node rec e.0.replica.view.blocks) (ignored node) StageSent (λ pass. inl refl)
          (λ fails. absurd (true≢false (sym ((bytes_eq-Decides (view_root shape e.0.replica.view) rec.header.root).1 e.2) ∙ fails)))))
          (λ isnt.
          let both = whole isnt in
          way_with (has_shape shape blocks && bytes_eq (root_of shape.height blocks) rec.header.root) (staged node rec blocks) (ignored node) StageSent (λ pass. inl refl)
          (λ fails. absurd (true≢false (sym (both_true (has_shape shape blocks) _ both.0 ((bytes_eq-Decides (root_of shape.height blocks) rec.header.root).1 both.1)) ∙ fails))))

      stage_sent : (blocks : List (List ℕ)) → ((length blocks == 0) ≡ true → (memory : Memory) × (node.memory ≡ Some memory) × (view_root shape memory.replica.view ≡ rec.header.root))
          → ((length blocks == 0) ≡ false → (has_shape shape blocks ≡ true) × (root_of shape.height blocks ≡ rec.header.root)) → StageSent (by_stage shape name.region node (record { rec = rec; blocks = blocks }))
      unfolding by_stage
      stage_sent blocks empty whole =
          let above : held.session < rec.header.session = subst (λ (e : ℕ). held.session < e) (sym says.session) staged_above in
          let here : is_staged_here name.region node rec.header ≡ true =
          both_true (nat_lt held.session rec.header.session) (rec.header.region == name.region) (lt-ltb held.session rec.header.session above) (eq-eqb rec.header.region name.region says.region) in
          way_with (is_staged_here name.region node rec.header) (option_map_or (λ old. staged_again node rec old) (base_held shape name.region rec.header.session held) (staged_anew shape node (record { rec = rec; blocks = blocks })))
          (ignored node) StageSent (λ is. by (base_held shape name.region rec.header.session held) refl) (λ isnt. absurd (true≢false (sym here ∙ isnt)))
        where
          by : (o : Option Base) → base_held shape name.region rec.header.session held ≡ o → StageSent (option_map_or (λ old. staged_again node rec old) o (staged_anew shape node (record { rec = rec; blocks = blocks })))
          by None is = anew blocks empty whole
          by (Some old) is = held_again old is

      -- the region's blocks of the session have the shape and the root
      pub region_whole : (has_shape shape (blocks_in shape b.contents name.region) ≡ true) × (root_of shape.height (blocks_in shape b.contents name.region) ≡ rec.header.root)
      region_whole = (begun_shaped shape events judge b m.begun plain sized name.region inside.0, sym says.root)

      pub stage_answered : (blocks : List (List ℕ)) → ((length blocks == 0) ≡ true → (memory : Memory) × (node.memory ≡ Some memory) × (view_root shape memory.replica.view ≡ rec.header.root))
          → ((length blocks == 0) ≡ false → (has_shape shape blocks ≡ true) × (root_of shape.height blocks ≡ rec.header.root)) → rec.header.session < 2 ^ 64
          → IsAnsweredBy shape (state.Stages b) name node (message.Stage (record { base = record { rec = rec; blocks = blocks } }))
      stage_answered blocks empty whole low = record {
        reply = message.Staged (record { session = rec.header.session });
        sent = stage_sent blocks empty whole;
        again = message_again (message.Staged (record { session = rec.header.session })) tt low;
        of = ap (λ (e : ℕ). message.Staged (record { session = e })) says.session;
      }
