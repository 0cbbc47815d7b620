-- Where a session starts from what is served, all that is served is acknowledged, and a server's view has its region's blocks.
use Rattle.std.proofs.Common.{◌≡◌, ◌⊎◌, ◌∙◌, inr, ⊎_elim, ℕ, suc, ◌+◌, ◌<◌, ◌≤◌, true, false, List, [], ◌∷◌, length, Option, refl, ap, sym, subst, arith}
use Rattle.std.specs.List.{AllByRecursion, list_all}
use Rattle.std.proofs.lemmas.List.{take_all}
use Rattle.std.proofs.lemmas.Option.{same_Some}
use Rattle.salus_types.specs.Volume.{Shape}
use Rattle.salus_types.specs.declared.names.NodeName.{NodeName}
use Rattle.salus_types.specs.declared.records.Base.{Base}
use Rattle.salus_types.specs.declared.records.Held.{Held}
use Rattle.salus_message.specs.declared.wire.Message.TheVariants as message
use Rattle.merkle_region.specs.Tree.{root_of, IsAmong, NoTwoCollide}
use Rattle.schedule_text.specs.Limits.{IsOfVolume, IsWithinLimits}
use Rattle.schedule_text.specs.declared.schedule.Volume.{Volume}
use Rattle.schedule_text.specs.declared.schedule.Event.{Event}
use Rattle.holding_model.specs.Fitting.{has_shape}
use Rattle.volume_model.specs.Contents.{Batch, blocks_in, fold_batches}
use Rattle.volume_model.specs.Parts.{Session, contents_after, number_of}
use Rattle.volume_model.specs.Recovering.{is_of}
use Rattle.salus_model.specs.Following.{Posted}
use Rattle.salus_model.specs.Hearing.{Past, judge_of, Fetching, Phase}
use Rattle.salus_model.specs.Judge.{Judge, known_at, last_number, array}
use Rattle.salus_model.specs.Quiet.{is_quiet}
use Rattle.client_rules.specs.State as state
use Rattle.replica_rules.specs.Views.{View, view_of_base}
use Rattle.replica_rules.specs.Nodes.{Memory, NodeState}
use Rattle.run_rules.specs.Knowing.{KnownNode}
use Rattle.list_lemmas.proofs.Tests.{and_right}
use Rattle.law_lemmas.proofs.Numbered.{IsSized, IsNumbered, numbered}
use Rattle.law_lemmas.proofs.Settled.{EachKnown, now-known}
use Rattle.law_lines.specs.Mirrors.{Mirrors, IsYoung}
use Rattle.law_prefix.specs.Good.{Good, Covered, ImageGood}
use Rattle.law_prefix.specs.Images.{Part, IsLinked, reach}
use Rattle.law_prefix.specs.Numbers.{number}
use Rattle.law_prefix.specs.World.{World}
use Rattle.law_prefix.proofs.Counting.{number_more, number_touched}
use Rattle.law_prefix.proofs.Linking.{reach_within}
use Rattle.kept_model.specs.Batches.{touching, list_of, start_of}
use Rattle.kept_model.specs.Images.{open_place, parts_as, image_of}
use Rattle.kept_model.specs.Nodes.{node_number, volume_as}
use Rattle.kept_model.specs.Phases.{asked_of, IsKnown}
use Rattle.law_records.proofs.Numbers.{length-touching, number_as}
use Rattle.law_refined.specs.Standing.{WhereSome, BaseStands, MemoryStands, Opened}
use Rattle.law_refined.proofs.Chains.{chain_shaped}
use Rattle.law_refined.proofs.Opens.{opened_among, opened_stands, opened_reach}
use Rattle.law_phases.specs.Moving.{OpensAsked}
use Rattle.law_phases.proofs.Moving.{phase_now}
use Rattle.law_kept.proofs.Along.{IsAlong}
use Rattle.law_covered.proofs.Right.{HasRight}
use Rattle.law_covered.proofs.RightNode.{IsRightView, view_right}
use Rattle.law_complete.proofs.Answering.{ShowsRegion, Shows, Unswitched}
use Rattle.law_complete.proofs.OpeningKnown.{EachPlain}
use Rattle.law_complete.proofs.Memory.{IsThere}
use Rattle.law_complete.proofs.OpeningQuietly.{IsUnreplaced}
use Rattle.law_complete.proofs.Standing.{good, region_is, counts_now, image_there, stands, holds, image, above, owns, staged_above}

-- ---- what is idle

-- All that is served is acknowledged, and no session above the one served is known, but for one that is being opened.
pub record IsIdle (judge : Judge) (e : ℕ) : Type 0 where
  pub acked : judge.acked ≡ last_number judge
  pub known : (f : ℕ) → IsKnown judge f → (f ≤ judge.now.session) ⊎ (f ≡ e)

-- so where a region's blocks are fetched, and where a base without blocks is staged
abbrev pub Idle : Judge → state.Client → Type 0
Idle judge (state.Fetches f) = IsIdle judge f.session
Idle judge (state.Stages b) =
    (to : NodeName) (base : Base) → IsAmong (record { to = to; message = message.Stage (record { base = base }) }) b.bases → base.blocks ≡ [] → IsIdle judge b.session × (b.contents ≡ array judge)
Idle judge (state.Gathers g) = Unit {0}
Idle judge (state.Switches b) = Unit {0}
Idle judge state.Closed = Unit {0}
Idle judge (state.Serves c) = Unit {0}

-- ---- numbers

-- where the parts lead to is a number of the region
reach_number : (bs : List (List ℕ)) (n g at : ℕ) (ps : List Part) → IsLinked bs n g at ps → number bs n at g ≡ at → number bs n (reach at ps) g ≡ reach at ps
unfolding IsLinked reach
reach_number bs n g at [] linked is = is
reach_number bs n g at (p ∷ ps) linked is = reach_number bs n g (suc p.before) ps linked.2 (number_touched bs n p.before g linked.0.after_start linked.0.touched)

module _ (volume : Volume) (events : List Event) (posts : List Posted) (limits : IsWithinLimits (record { volume = volume; events = events })) (strings : List (List ℕ)) (none : NoTwoCollide strings)
    (quiet_run : list_all is_quiet events ≡ true) (history : List Past) (n top : ℕ) (c : state.Client) (known : NodeName → KnownNode) (sent : ℕ)
    (a : IsAlong volume events posts limits strings none history n top c known sent) (unreplaced : AllByRecursion IsUnreplaced history)
    (name : NodeName) (inside : IsOfVolume volume.geometry name) (speaks : (known name).silent ≡ false)
    (plain : EachPlain volume.geometry events (judge_of volume.geometry events history)) (right : HasRight volume.geometry (judge_of volume.geometry events history) name.region (known name).state.held) where
  abbrev shape : Shape
  shape = volume.geometry

  abbrev judge : Judge
  judge = judge_of volume.geometry events history

  abbrev w : World
  w = a.reached.now

  abbrev held : Held
  held = (known name).state.held

  abbrev node : NodeState
  node = (known name).state

  abbrev g : ℕ
  g = name.region

  sized : EachKnown judge (IsSized volume.geometry)
  sized = a.standing.settled.sized

  good_now : Good (volume_as shape events) w
  good_now = good volume events posts limits strings none quiet_run history n top c known sent a unreplaced name inside speaks

  image_now : ImageGood w.client g (image_of held)
  image_now = image volume events posts limits strings none quiet_run history n top c known sent a unreplaced name inside speaks

  served_is : w.client.served ≡ judge.now.session
  served_is = a.reached.matches.client.served

  listed : w.client.lists w.client.served ≡ touching shape judge.now.list
  listed = ap (λ (e : ℕ). w.client.lists e) served_is ∙ (a.reached.matches.client.lists judge.now.session ∙ ap (list_of shape) (now-known judge))

  started : w.client.starts w.client.served ≡ judge.now.base
  started = ap (λ (e : ℕ). w.client.starts e) served_is ∙ (a.reached.matches.client.starts judge.now.session ∙ ap start_of (now-known judge))

  -- where all is acknowledged and the session served is open, the view has the region's last number
  module _ (idle : judge.acked ≡ last_number judge) (open_now : held.session ≡ judge.now.session) where
    same_session : held.session ≡ w.client.served
    same_session = open_now ∙ sym served_is

    covered_now : number (w.client.lists w.client.served) (w.client.starts w.client.served) w.client.acked g ≤ reach (open_place held) (parts_as held.parts)
    covered_now =
        let one : Covered w.client g (image_of held) w.client.acked =
        subst (λ (r : ℕ). Covered w.client r (image_of held) w.client.acked) (region_is volume events posts limits strings none quiet_run history n top c known sent a unreplaced name inside speaks)
        (good_now.acked.all (node_number shape name) (counts_now volume events posts limits strings none quiet_run history n top c known sent a unreplaced name inside speaks) (image_of held)
        (image_there volume events posts limits strings none quiet_run history n top c known sent a unreplaced name inside speaks)) in
        ⊎_elim (λ (later : w.client.served < held.session). let same = same_session in absurd (omega (arith, later, same))) (λ (now : (held.session ≡ w.client.served) × _). now.1) one

    linked_now : IsLinked (w.client.lists w.client.served) (w.client.starts w.client.served) g (open_place held) (parts_as held.parts)
    linked_now = subst (λ (e : ℕ). IsLinked (w.client.lists e) (w.client.starts e) g (open_place held) (parts_as held.parts)) same_session image_now.linked

    base_number : number (w.client.lists w.client.served) (w.client.starts w.client.served) (open_place held) g ≡ open_place held
    base_number = subst (λ (e : ℕ). number (w.client.lists e) (w.client.starts e) (open_place held) g ≡ open_place held) same_session image_now.is_number

    base_within : open_place held ≤ length (w.client.lists w.client.served)
    base_within = subst (λ (e : ℕ). open_place held ≤ length (w.client.lists e)) same_session image_now.within

    long : length (w.client.lists w.client.served) ≡ last_number judge
    long = ap length listed ∙ length-touching shape judge.now.list

    -- the view's place is the number of the region after all batches
    last_reached : (place : ℕ) → reach (open_place held) (parts_as held.parts) ≡ place → place ≡ number_of shape judge.now (last_number judge) g
    last_reached place at =
        let bs : List (List ℕ) = w.client.lists w.client.served in
        let from : ℕ = w.client.starts w.client.served in
        let r : ℕ = reach (open_place held) (parts_as held.parts) in
        let within : r ≤ length bs = reach_within bs from g (open_place held) (parts_as held.parts) linked_now base_within in
        let is : number bs from r g ≡ r = reach_number bs from g (open_place held) (parts_as held.parts) linked_now base_number in
        let up : number bs from r g ≤ number bs from (length bs) g = number_more bs from r (length bs) g within in
        let acked : w.client.acked ≡ length bs = a.reached.matches.client.acked ∙ (idle ∙ sym long) in
        let down : number bs from (length bs) g ≤ r = subst (λ (k : ℕ). number bs from k g ≤ r) acked covered_now in
        let start : from ≤ w.client.acked = good_now.client.start_acked in
        let base : from ≡ judge.now.base = started in
        let count : length bs ≡ last_number judge = long in
        let same : number bs from (length bs) g ≡ number_of shape judge.now (last_number judge) g =
        ap (λ (l : List (List ℕ)). number l from (length bs) g) listed
        ∙ (ap (λ (b : ℕ). number (touching shape judge.now.list) b (length bs) g) started
        ∙ (ap (λ (k : ℕ). number (touching shape judge.now.list) judge.now.base k g) long
        ∙ number_as shape judge.now (sized judge.now judge.now.session (now-known judge)) g inside.0 (last_number judge) (omega (arith, start, acked, base, count)) (omega arith))) in
        omega (arith, is, up, down, same, at)

    pub shows_region : (there : IsThere node.memory) → ShowsRegion shape judge.now.session (array judge) g node
    shows_region there =
        let m : Memory = there.0 in
        let st = stands volume events posts limits strings none quiet_run history n top c known sent a unreplaced name inside speaks in
        let ms : MemoryStands shape (volume_as shape events) g w.client w.votes w.claims held m = subst (λ (k : Option Memory). WhereSome (MemoryStands shape (volume_as shape events) g w.client w.votes w.claims held) k) there.1 st.state.memory in
        let view : View = m.replica.view in
        let o : Opened shape g w.client held view = ms.opened in
        let hs = holds volume events posts limits strings none quiet_run history n top c known sent a unreplaced name inside speaks in
        let base : BaseStands shape g w.client held.session o.base = opened_stands shape g w.client held view hs o in
        let v : IsRightView shape volume.key judge sized g inside.0 w.client held.session view =
        view_right shape volume.key judge sized g inside.0 w.client held hs (owns volume events posts limits strings none quiet_run history n top c known sent a unreplaced name inside speaks) right view o (opened_among shape g w.client held view o).0 in
        let same : v.known ≡ judge.now = same_Some v.known judge.now (sym v.at ∙ (ap (λ (e : ℕ). known_at judge e) open_now ∙ now-known judge)) in
        let last : ℕ = last_number judge in
        let place : view.number ≡ number_of shape judge.now last g = last_reached view.number (opened_reach shape g w.client held view o) in
        let k : IsSized shape judge.now = sized judge.now judge.now.session (now-known judge) in
        let begun = k.begun in
        let of : IsNumbered shape judge.now k g last = numbered shape judge.now k g last inside.0 begun (omega arith) in
        let blocks : view.blocks ≡ blocks_in shape (array judge) g =
        v.blocks ∙ (ap (λ (s : Session). blocks_in shape (contents_after s view.number) g) same ∙ (ap (λ (i : ℕ). blocks_in shape (contents_after judge.now i) g) place
        ∙ (of.blocks ∙ ap (λ (l : List Batch). blocks_in shape (fold_batches judge.now.origin l) g) (take_all last judge.now.list (omega arith))))) in
        let few = a.countable.few v.known held.session v.at in
        let low = a.countable.low in
        let most = limits.few in
        let within = v.within in
        record {
          m = m;
          there = there.1;
          session = ms.session ∙ open_now;
          shaped = chain_shaped shape g w.client held.session (view_of_base o.base) held.parts view (and_right (is_of o.base.rec.header.session g o.base.rec.header) (has_shape shape o.base.blocks) base.stands) o.chain;
          root = ap (root_of shape.height) blocks;
          low = omega (arith, few, low, most, within);
        }

  -- the session served is open where no later one is known but the one to come
  open_served : (e : ℕ) → IsIdle judge e → held.session < e → held.session ≡ judge.now.session
  open_served e idle below =
      let up : w.client.served ≤ held.session = above volume events posts limits strings none quiet_run history n top c known sent a unreplaced name inside speaks in
      let is = served_is in
      ⊎_elim (λ (low : held.session ≤ judge.now.session). let done : held.session ≡ judge.now.session = omega (arith, low, up, is) in done)
      (λ (same : held.session ≡ e). absurd (omega (arith, same, below))) (idle.known held.session (a.reached.matches.client.known_there held.session image_now.known))

  pub shows : Idle judge c → Unswitched shape history c → IsThere node.memory → Shows volume c name node
  shows idle unswitched there = by c refl where
    by : (d : state.Client) → c ≡ d → Shows volume d name node
    by (state.Fetches f) is =
        let mirrors = subst (λ (k : state.Client). Mirrors volume history judge n k) is a.holds.mirrors in
        let now : IsIdle judge f.session = subst (Idle judge) is idle in
        let asked : asked_of history ≡ f.session = subst (λ (phase : Phase). OpensAsked phase (asked_of history)) mirrors.phase a.opening in
        let early : held.session < w.client.asked = good_now.client.early (inr (a.reached.matches.client.phase ∙ phase_now shape history (Fetching f.session f.region) mirrors.phase)) held.session image_now.known in
        let to : w.client.asked ≡ asked_of history = a.reached.matches.client.asked in
        let session : held.session ≡ judge.now.session = open_served f.session now (omega (arith, early, to, asked)) in
        subst (λ (e : ℕ). ShowsRegion shape e f.contents g node) (sym mirrors.served)
        (subst (λ (k : List (List ℕ)). ShowsRegion shape judge.now.session k g node) (sym mirrors.contents) (shows_region now.acked session there))
    by (state.Stages b) is = λ base among empty.
        let mirrors = subst (λ (k : state.Client). Mirrors volume history judge n k) is a.holds.mirrors in
        let both : IsIdle judge b.session × (b.contents ≡ array judge) = (subst (Idle judge) is idle) name base among empty in
        let young : judge.now.session < b.session = (subst (λ (k : state.Client). IsYoung judge (top + 1) k) is a.holds.young).0 in
        let below : held.session < b.session =
        staged_above volume events posts limits strings none quiet_run history n top c known sent a unreplaced name inside speaks plain right b mirrors young (subst (Unswitched shape history) is unswitched) in
        let session : held.session ≡ judge.now.session = open_served b.session both.0 below in
        (judge.now.session, subst (λ (k : List (List ℕ)). ShowsRegion shape judge.now.session k g node) (sym both.1) (shows_region both.0.acked session there))
    by (state.Gathers d) is = tt
    by (state.Switches d) is = tt
    by state.Closed is = tt
    by (state.Serves d) is = tt
