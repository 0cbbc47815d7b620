-- A node's step keeps what honest nodes said sound: it shows what it holds, which was tagged and stands as a node's must.
use Rattle.std.proofs.Common.{◌≡◌, ◌∙◌, ◌⊎◌, ⊎_elim, ℕ, ◌^◌, ◌<◌, ◌≤◌, ◌==◌, ◌||◌, Bool, true, false, List, [], ◌∷◌, Option, None, Some, Ok, sym, ap, subst}
use Rattle.std.specs.Option.{option_map_or}
use Rattle.std.specs.List.{AllByRecursion}
use Rattle.std.proofs.lemmas.Bool.{eqb-true}
use Rattle.salus_types.specs.Volume.{Shape, IsVolume}
use Rattle.salus_types.specs.declared.names.NodeName.{NodeName}
use Rattle.salus_types.specs.declared.names.Sender.TheVariants as sender
use Rattle.salus_types.specs.declared.records.Record.{Record}
use Rattle.salus_types.specs.declared.records.Base.{Base}
use Rattle.salus_types.specs.declared.records.Held.{Held}
use Rattle.salus_codec.specs.Spelling.{be8}
use Rattle.salus_codec.specs.Reading.{u64_at}
use Rattle.client_tag.specs.Ranges.{IsTyped}
use Rattle.client_tag.specs.Spelling.{record_bytes, base_bytes}
use Rattle.client_tag.specs.Reading.{record_at, base_at}
use Rattle.salus_message.specs.declared.small.Prepared.{Prepared}
use Rattle.salus_message.specs.declared.small.Committed.{Committed}
use Rattle.salus_message.specs.declared.small.Ask.{Ask}
use Rattle.salus_message.specs.declared.small.Dump.{Dump}
use Rattle.salus_message.specs.declared.replies.Answer.{Answer}
use Rattle.salus_message.specs.declared.carried.Dumped.{Dumped}
use Rattle.salus_message.specs.declared.carried.Gathered.{Gathered}
use Rattle.salus_message.specs.declared.wire.Message.{Message}
use Rattle.salus_message.specs.declared.wire.Message.TheVariants as message
use Rattle.salus_message.specs.Spelling.{prepared_bytes, committed_bytes, ask_bytes, answer_bytes, dump_bytes, dumped_bytes, message_bytes}
use Rattle.salus_message.specs.Reading.{prepared_at, committed_at, ask_at, answer_at, dump_at, dumped_at, message_at}
use Rattle.salus_message.proofs.MessageLaws.{message_again}
use Rattle.schedule_text.proofs.Decided.{same_ok}
use Rattle.schedule_text.specs.Limits.{IsOfVolume, IsWithinLimits}
use Rattle.schedule_text.specs.declared.schedule.Volume.{Volume}
use Rattle.schedule_text.specs.declared.schedule.Event.{Event}
use Rattle.merkle_region.specs.Tree.{IsAmong}
use Rattle.volume_model.specs.Recovering.{is_of}
use Rattle.volume_model.specs.Groups.{group_of}
use Rattle.holding_model.specs.Fitting.{has_content, has_shape}
use Rattle.holding_model.specs.Changing.{after_changes}
use Rattle.salus_model.specs.declared.trace.TraceStep.{TraceStep}
use Rattle.salus_model.specs.Following.{Posted}
use Rattle.salus_model.specs.Forgery.{IsTagged, IsPartOf, IsBaseOf}
use Rattle.salus_model.specs.Guarding.{is_lied_for}
use Rattle.salus_model.specs.Hearing.{Past, judge_of}
use Rattle.salus_model.specs.Judge.{Judge, known_at}
use Rattle.replica_rules.specs.Views.{View, view_of_base, view_after}
use Rattle.replica_rules.specs.Nodes.{NodeState}
use Rattle.replica_rules.specs.Rules.{Sending, is_carried, Input, planned, handled}
use Rattle.replica_rules.proofs.Keeping.{OfHeld}
use Rattle.run_rules.specs.Knowing.{KnownNode, outs_of, input_of, outs_to}
use Rattle.run_rules.specs.Running.{posted_by, IsNodeStep}
use Rattle.list_lemmas.proofs.Each.{either_way, all_then, all_zip}
use Rattle.list_lemmas.proofs.Lists.{among_between}
use Rattle.list_lemmas.proofs.Members.{among_all, among_map}
use Rattle.list_lemmas.proofs.Tests.{and_left, and_right}
use Rattle.law_lemmas.proofs.Owned.{known-session}
use Rattle.law_handed.specs.Fitting.{IsSpelled}
use Rattle.law_handed.proofs.Behind.{Behind, planned_behind}
use Rattle.law_handed.proofs.Whole.{ours_shape}
use Rattle.law_prefix.specs.World as abstract
use Rattle.law_prefix.proofs.Growing.{split}
use Rattle.kept_model.specs.Nodes.{volume_as, node_of}
use Rattle.kept_model.specs.Sound.{IsSoundHeld}
use Rattle.law_refined.specs.Bringing.{InputFits, HandedFits}
use Rattle.law_refined.specs.Standing.{BaseStands, Chain, Opened, HeldStands, StateStands, NodeStands}
use Rattle.law_refined.proofs.Chains.{GoesOn, goes_parts}
use Rattle.law_refined.proofs.Turning.{OutFits}
use Rattle.law_refined.proofs.Planning.{PlanStands, planned_stands}
use Rattle.law_refined.proofs.Spelled.{field_is, is_held, session_small, bases_spelled, parts_spelled}
use Rattle.law_matched.specs.Silent.{IsReached, IsHandedRight}
use Rattle.law_matched.proofs.Numbering.{all_numbered}
use Rattle.law_matched.proofs.Matched.{node_of_sender, handed_fits}
use Rattle.law_matched.proofs.Sound.{IsOwnBase, IsOwnPart, held_sound}
use Rattle.law_records.proofs.Own.{base_says, own-session, own-region}
use Rattle.law_kept.proofs.Saying.{Owns, SaidSound}

-- ---- what a node shows is what it holds

-- a message that shows what is held shows that
abbrev ShowsThat : Held → Message → Type 0
ShowsThat held (message.Gathered m) = (m.held ≡ held) × (m.session < 2 ^ 64) × (is_carried m.held ≡ true)
ShowsThat held other = Unit {0}

abbrev AllShowThat : Held → List Sending → Type 0
AllShowThat held outs = AllByRecursion (λ out. ShowsThat held out.message) outs

abbrev IsOther : Message → Type 0
IsOther (message.Gathered m) = ⊥
IsOther other = Unit {0}

abbrev held_in : Held → Message → Held
held_in held (message.Gathered m) = m.held
held_in held other = held

module _ (shape : Shape) (limits : IsVolume shape) (v : abstract.Volume) (numbered : (r : ℕ) → v.honest r ≡ true → IsAmong (node_of shape r) (group_of shape (v.region r))) (g : ℕ) (c : abstract.Client)
    (votes : List abstract.Vote) (claims : List abstract.Claim) where
  shows_that : (before now : Held) (m : Message) → Behind before now m → OutFits shape v g c votes claims now m → ShowsThat before m
  shows_that before now (message.Gathered m) behind fits = (behind, fits.2, fits.3)
  shows_that before now (message.Prepared m) behind fits = tt
  shows_that before now (message.Committed m) behind fits = tt
  shows_that before now (message.Staged m) behind fits = tt
  shows_that before now (message.Switched m) behind fits = tt
  shows_that before now (message.Part m) behind fits = tt
  shows_that before now (message.Ask m) behind fits = tt
  shows_that before now (message.Answer m) behind fits = tt
  shows_that before now (message.Gather m) behind fits = tt
  shows_that before now (message.Stage m) behind fits = tt
  shows_that before now (message.Switch m) behind fits = tt
  shows_that before now (message.Dump m) behind fits = tt
  shows_that before now (message.Dumped m) behind fits = tt

  planned_show : (state : NodeState) → StateStands shape v g c votes claims state → (input : Input) → InputFits shape v c votes claims input → AllShowThat state.held (planned shape g state input).outs
  planned_show state stands input fits =
      let now : Held = after_changes shape state.held (planned shape g state input).changes in
      let good : PlanStands shape v g c votes claims state.held (planned shape g state input) = planned_stands shape v g c votes claims numbered state stands.holds stands.memory input fits in
      all_then (λ out. Behind state.held now out.message × OutFits shape v g c votes claims now out.message) (λ out. ShowsThat state.held out.message)
      (λ out both. shows_that state.held now out.message both.0 both.1) (planned shape g state input).outs
      (all_zip (λ out. Behind state.held now out.message) (λ out. OutFits shape v g c votes claims now out.message) (planned shape g state input).outs (planned_behind shape g state input) good.outs)

  outs_show : (known : KnownNode) (failed : Bool) (o : Option Input) → NodeStands shape v g c votes claims known → HandedFits shape v c votes claims o
      → AllShowThat known.state.held (option_map_or (λ input. outs_of shape g known input failed) o [])
  outs_show known failed None stands fits = tt
  outs_show known failed (Some input) stands fits =
      either_way (known.silent || failed) [] (handled shape g known.state input).outs (AllShowThat known.state.held) tt (planned_show known.state stands.state input fits)

  -- what is read of it is that
  read_that : (held : Held) → HeldStands shape g c held → (m : Message) → ShowsThat held m → (x : Gathered) → message_at (message_bytes m) ≡ Ok (message.Gathered x) → x.held ≡ held
  unfolding message_at
  read_that held holds (message.Gathered m) shows x is =
      let back : held ≡ m.held = sym shows.0 in
      let again : message_at (message_bytes (message.Gathered m)) ≡ Ok (message.Gathered m) =
      message_again (message.Gathered m) (is_held shape limits g c m.held (subst (λ (h : Held). HeldStands shape g c h) back holds) shows.2) (
        shows.1,
        subst (λ (h : Held). h.session < 2 ^ 64) back (session_small shape limits g c held holds),
        subst (λ (h : Held). AllByRecursion (λ (base : Base). IsTyped base.rec) h.bases) back
            (all_then (λ (base : Base). IsSpelled base.rec) (λ (base : Base). IsTyped base.rec) (λ base spelled. spelled.widths) held.bases (bases_spelled shape limits g c held holds)),
        subst (λ (h : Held). AllByRecursion IsTyped h.parts) back (all_then IsSpelled IsTyped (λ rec spelled. spelled.widths) held.parts (parts_spelled shape limits g c held holds)),
      ) in
      sym (ap (λ (k : Message). held_in held k) (same_ok (message.Gathered m) (message.Gathered x) (sym again ∙ is))) ∙ shows.0
  read_that held holds (message.Prepared m) shows x is = absurd (field_is (λ (y : Prepared). message.Prepared y) IsOther (λ y. tt) (prepared_at (prepared_bytes m)) (message.Gathered x) is)
  read_that held holds (message.Committed m) shows x is = absurd (field_is (λ (y : Committed). message.Committed y) IsOther (λ y. tt) (committed_at (committed_bytes m)) (message.Gathered x) is)
  read_that held holds (message.Staged m) shows x is = absurd (field_is (λ (y : ℕ). message.Staged (record { session = y })) IsOther (λ y. tt) (u64_at (be8 m.session)) (message.Gathered x) is)
  read_that held holds (message.Switched m) shows x is = absurd (field_is (λ (y : ℕ). message.Switched (record { session = y })) IsOther (λ y. tt) (u64_at (be8 m.session)) (message.Gathered x) is)
  read_that held holds (message.Part m) shows x is = absurd (field_is (λ (y : Record). message.Part (record { rec = y })) IsOther (λ y. tt) (record_at (record_bytes m.rec)) (message.Gathered x) is)
  read_that held holds (message.Ask m) shows x is = absurd (field_is (λ (y : Ask). message.Ask y) IsOther (λ y. tt) (ask_at (ask_bytes m)) (message.Gathered x) is)
  read_that held holds (message.Answer m) shows x is = absurd (field_is (λ (y : Answer). message.Answer y) IsOther (λ y. tt) (answer_at (answer_bytes m)) (message.Gathered x) is)
  read_that held holds (message.Gather m) shows x is = absurd (field_is (λ (y : ℕ). message.Gather (record { session = y })) IsOther (λ y. tt) (u64_at (be8 m.session)) (message.Gathered x) is)
  read_that held holds (message.Stage m) shows x is = absurd (field_is (λ (y : Base). message.Stage (record { base = y })) IsOther (λ y. tt) (base_at (base_bytes m.base)) (message.Gathered x) is)
  read_that held holds (message.Switch m) shows x is = absurd (field_is (λ (y : ℕ). message.Switch (record { session = y })) IsOther (λ y. tt) (u64_at (be8 m.session)) (message.Gathered x) is)
  read_that held holds (message.Dump m) shows x is = absurd (field_is (λ (y : Dump). message.Dump y) IsOther (λ y. tt) (dump_at (dump_bytes m)) (message.Gathered x) is)
  read_that held holds (message.Dumped m) shows x is = absurd (field_is (λ (y : Dumped). message.Dumped y) IsOther (λ y. tt) (dumped_at (dumped_bytes m)) (message.Gathered x) is)

-- ---- what stands and was tagged is sound

-- of a part that is held
pub record IsPartHere (g e : ℕ) (rec : Record) : Type 0 where
  pub session : rec.header.session ≡ e
  pub region : rec.header.region ≡ g
  pub content : has_content rec.writes rec.run ≡ true

chain_here : (shape : Shape) (g : ℕ) (c : abstract.Client) (e : ℕ) (view : View) (parts : List Record) (now : View) → Chain shape g c e view parts now → AllByRecursion (IsPartHere g e) parts
unfolding Chain
chain_here shape g c e view [] now chain = tt
chain_here shape g c e view (rec ∷ parts) now chain =
    let on : GoesOn shape g view rec = goes_parts shape g view rec chain.0.goes in
    (record { session = chain.0.session; region = on.region; content = (ours_shape shape g rec on.shaped).0 }, chain_here shape g c e (view_after shape view rec) parts now chain.1)

true_not_false : true ≡ false → ⊥
true_not_false e = cc

module _ (shape : Shape) (key : List ℕ) (judge : Judge) (g : ℕ) (c : abstract.Client) (held : Held) (holds : HeldStands shape g c held) (owns : OfHeld (λ rec. IsTagged shape key judge rec) held) where
  -- the session of a tagged record is known
  pub known_here : (rec : Record) (tagged : IsTagged shape key judge rec) → known_at judge rec.header.session ≡ Some tagged.session
  known_here rec tagged =
      subst (λ e. known_at judge e ≡ Some tagged.session) (sym (own-session shape key tagged.session tagged.g rec tagged.either ∙ known-session judge tagged.e tagged.session tagged.known)) tagged.known

  pub own_here : (rec : Record) (tagged : IsTagged shape key judge rec) → rec.header.region ≡ g → IsPartOf shape key tagged.session g rec ⊎ IsBaseOf shape key tagged.session g rec
  own_here rec tagged region =
      subst (λ r. IsPartOf shape key tagged.session r rec ⊎ IsBaseOf shape key tagged.session r rec) (sym (own-region shape key tagged.session tagged.g rec tagged.either) ∙ region) tagged.either

  pub own_base : (base : Base) → IsAmong base held.bases → IsOwnBase shape key judge g base
  own_base base among =
      let tagged : IsTagged shape key judge base.rec = among_all (λ (b : Base). IsTagged shape key judge b.rec) held.bases base among owns.bases in
      let stands : BaseStands shape g c held.session base = among_all (BaseStands shape g c held.session) held.bases base among holds.bases in
      let region : base.rec.header.region ≡ g =
      eqb-true base.rec.header.region g (and_right (base.rec.header.session == base.rec.header.session) (base.rec.header.region == g) (and_left (is_of base.rec.header.session g base.rec.header) (has_shape shape base.blocks) stands.stands)) in
      record { known = tagged.session; at = known_here base.rec tagged; own = own_here base.rec tagged region }

  parts_here : AllByRecursion (IsPartHere g held.session) held.parts
  parts_here =
      ⊎_elim (λ (closed : (held.session ≡ 0) × (held.parts ≡ [])). subst (λ (l : List Record). AllByRecursion (IsPartHere g held.session) l) (sym closed.1) tt)
      (λ (open_view : (0 < held.session) × (view : View) × Opened shape g c held view).
      let o : Opened shape g c held open_view.1 = open_view.2 in
      chain_here shape g c held.session (view_of_base o.base) held.parts open_view.1 o.chain) holds.open_is

  pub own_part : (rec : Record) → IsAmong rec held.parts → IsOwnPart shape key judge g held.session rec
  own_part rec among =
      let tagged : IsTagged shape key judge rec = among_all (λ k. IsTagged shape key judge k) held.parts rec among owns.parts in
      let here : IsPartHere g held.session rec = among_all (IsPartHere g held.session) held.parts rec among parts_here in
      let part : IsPartOf shape key tagged.session g rec =
      ⊎_elim (λ (is : IsPartOf shape key tagged.session g rec). is)
      (λ (base : IsBaseOf shape key tagged.session g rec). absurd (true_not_false (sym here.content ∙ (base_says shape key tagged.session g rec base).empty)))
      (own_here rec tagged here.region) in
      record { known = tagged.session; at = subst (λ e. known_at judge e ≡ Some tagged.session) here.session (known_here rec tagged); own = part }

  pub tagged_sound : IsSoundHeld shape key judge g held
  tagged_sound = held_sound shape key judge g c held holds own_base own_part

-- ---- a step

pub said_more : (volume : Volume) (events : List Event) (posts : List Posted) (limits : IsWithinLimits (record { volume = volume; events = events })) (unlied : is_lied_for events sender.Client ≡ false) (history : List Past)
    (known : NodeName → KnownNode) (sent : ℕ) → (reached : IsReached volume.geometry events posts history known sent) → (name : NodeName) → IsOfVolume volume.geometry name → (t : TraceStep) → t.party ≡ sender.Node name
    → IsNodeStep volume.geometry posts name (known name) sent t → IsHandedRight events sent t.handed → Owns volume events posts (judge_of volume.geometry events history) (known name)
    → SaidSound volume events posts (judge_of volume.geometry events history) sent → SaidSound volume events posts (judge_of volume.geometry events history) t.sent
said_more volume events posts limits unlied history known sent reached name inside t party step right owns said k counted low post at other valid from honest x reads =
    let shape : Shape = volume.geometry in
    let judge : Judge = judge_of shape events history in
    let w : abstract.World = reached.now in
    let stands : NodeStands shape (volume_as shape events) name.region w.client w.votes w.claims (known name) = reached.stand name inside in
    let outs : List Sending = outs_to shape name.region posts (known name) t.handed t.failed in
    let held : Held = (known name).state.held in
    ⊎_elim (λ (old : k ≤ sent). said k counted old post at other valid from honest x reads)
    (λ (new : sent < k).
    let among : IsAmong post (posted_by (sender.Node name) outs) = subst (λ (l : List Posted). IsAmong post l) step.messages (among_between posts sent t.sent k post at new low) in
    let found = among_map (λ (out : Sending). record { from = sender.Node name; to = out.to; bytes = message_bytes out.message }) post outs among in
    let mine : other ≡ name = node_of_sender other name (sym from ∙ ap (λ (p : Posted). p.from) found.2) in
    let text : message_at (message_bytes found.0.message) ≡ Ok (message.Gathered x) = ap (λ (p : Posted). message_at p.bytes) (sym found.2) ∙ reads in
    let fits : HandedFits shape (volume_as shape events) w.client w.votes w.claims (input_of posts t.handed) = handed_fits shape limits.volume events unlied posts sent w reached.matches.messages reached.clients t.handed right in
    let all : AllShowThat held outs =
    outs_show shape limits.volume (volume_as shape events) (all_numbered shape limits.volume events) name.region w.client w.votes w.claims (known name) t.failed (input_of posts t.handed) stands fits in
    let shows : ShowsThat held found.0.message = among_all (λ (out : Sending). ShowsThat held out.message) outs found.0 found.1 all in
    let same : x.held ≡ held =
    read_that shape limits.volume (volume_as shape events) (all_numbered shape limits.volume events) name.region w.client w.votes w.claims held stands.state.holds found.0.message shows x text in
    let sound : IsSoundHeld shape volume.key judge name.region held = tagged_sound shape volume.key judge name.region w.client held stands.state.holds owns.held in
    subst (λ (n : NodeName). IsSoundHeld shape volume.key judge n.region x.held) (sym mine) (subst (λ (h : Held). IsSoundHeld shape volume.key judge name.region h) (sym same) sound))
    (split k sent)
