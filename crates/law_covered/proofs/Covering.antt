-- After some steps: what each of the contents has that the disk of a node that counts may mean.
use Rattle.std.proofs.Common.{◌≡◌, ◌⊎◌, ◌∙◌, ⊎_elim, ℕ, ◌<◌, ◌≤◌, Bool, true, false, ◌==◌, nat_lt, List, [], length, map, Some, inl, inr, refl, ap, sym, subst, arith, eqb-true, eq-or-lt_of_le}
use Rattle.std.specs.Prelude.{reverse}
use Rattle.std.specs.List.{AllByRecursion}
use Rattle.std.proofs.lemmas.Bool.{eq-eqb}
use Rattle.std.proofs.lemmas.List.{reverse-reverse}
use Rattle.std.proofs.lemmas.Option.{same_Some}
use Rattle.salus_types.specs.Volume.{Shape, regions}
use Rattle.salus_types.specs.declared.names.NodeName.{NodeName}
use Rattle.salus_types.specs.declared.names.Sender.TheVariants as sender
use Rattle.salus_types.specs.declared.records.Base.{Base}
use Rattle.salus_types.specs.declared.records.Held.{Held}
use Rattle.salus_types.specs.declared.records.Record.{Record}
use Rattle.salus_message.specs.declared.small.Committed.{Committed}
use Rattle.salus_message.specs.declared.small.Switch.{Switch}
use Rattle.salus_message.specs.declared.wire.Message.TheVariants as message
use Rattle.merkle_region.specs.Tree.{IsAmong, NoTwoCollide}
use Rattle.schedule_text.specs.Limits.{IsOfVolume, IsWithinLimits}
use Rattle.schedule_text.specs.declared.schedule.Volume.{Volume}
use Rattle.schedule_text.specs.declared.schedule.Event.{Event}
use Rattle.volume_model.specs.Contents.{blocks_in}
use Rattle.volume_model.specs.Recovering.{is_of}
use Rattle.volume_model.specs.Parts.{Session, contents_after, number_of}
use Rattle.holding_model.specs.Changing.{is_open_base}
use Rattle.holding_model.specs.Fitting.{has_shape}
use Rattle.salus_model.specs.Covering.{IsSound, Covers}
use Rattle.salus_model.specs.Forgery.{IsPartOf, IsTagged}
use Rattle.salus_model.specs.Guarding.{counts, is_lied_for}
use Rattle.salus_model.specs.Hearing.{Past, judge_of}
use Rattle.salus_model.specs.Following.{Posted}
use Rattle.salus_model.specs.Judge.{Judge, known_at}
use Rattle.salus_model.specs.Licences.{HoldsBase}
use Rattle.client_rules.specs.State as state
use Rattle.replica_rules.specs.Views.{View}
use Rattle.replica_rules.proofs.Keeping.{OfHeld}
use Rattle.run_rules.specs.Knowing.{KnownNode}
use Rattle.list_lemmas.proofs.Members.{among_all, all_among, among_filter, among_filter-in, among_map}
use Rattle.list_lemmas.proofs.Tests.{and_left, and_right}
use Rattle.law_lemmas.proofs.Owned.{known-session}
use Rattle.law_lemmas.proofs.Settled.{now-known}
use Rattle.law_prefix.specs.Numbers.{Mem, number}
use Rattle.law_prefix.specs.Images.{Image}
use Rattle.law_prefix.specs.World.{World, Claim}
use Rattle.law_prefix.specs.Good.{Good, ImageGood, Settled, ClaimGood, Covers as ImageCovers}
use Rattle.law_prefix.proofs.Kept.{acks_covered, places_covered}
use Rattle.kept_model.specs.Batches.{touching, list_of, start_of}
use Rattle.kept_model.specs.Images.{image_of, open_place, later_bases, later_sessions}
use Rattle.kept_model.specs.Messages.{claim_as}
use Rattle.kept_model.specs.Nodes.{node_number, region_of_node, volume_as}
use Rattle.kept_model.specs.Sound.{IsSoundPart, IsSoundHeld}
use Rattle.law_records.proofs.Numbers.{length-touching}
use Rattle.law_records.proofs.Recovered.{mem_among}
use Rattle.law_refined.specs.Standing.{BaseStands, Opened, HeldStands}
use Rattle.law_refined.proofs.Listed.{mem_reverse}
use Rattle.law_refined.proofs.Opens.{opened_place, opened_among, opened_session}
use Rattle.law_matched.proofs.Covered.{held_covers}
use Rattle.law_matched.proofs.Numbering.{region_numbered}
use Rattle.law_kept.proofs.Along.{IsAlong}
use Rattle.law_kept.proofs.SaidSound.{tagged_sound}
use Rattle.law_covered.specs.Claiming.{sent_in, IsSaid, CountsOrCounted}
use Rattle.law_covered.specs.Coverage.{AreCovered, MayMean}
use Rattle.law_covered.proofs.Right.{IsRightBase, HasRight}
use Rattle.law_covered.proofs.Low.{number_same}
use Rattle.law_covered.proofs.Reached.{good_there, counts_there, honest_there, image_there}
use Rattle.law_covered.proofs.Claimed.{AreSettled}
use Rattle.law_covered.proofs.Along.{AreRight}

mem_turned : {A : Type 0} (x : A) (xs : List A) → Mem x (reverse xs) → Mem x xs
mem_turned x xs at = subst (λ l. Mem x l) (reverse-reverse xs) (mem_reverse x (reverse xs) at)

module _ (volume : Volume) (events : List Event) (posts : List Posted) (limits : IsWithinLimits (record { volume = volume; events = events })) (strings : List (List ℕ)) (none : NoTwoCollide strings)
    (unlied : is_lied_for events sender.Client ≡ false) (history : List Past) (n top : ℕ) (c : state.Client) (known : NodeName → KnownNode) (sent : ℕ)
    (a : IsAlong volume events posts limits strings none history n top c known sent) (right : AreRight volume events posts limits strings none unlied history c known sent)
    (settled : AreSettled volume events posts limits strings none unlied history a.reached.now) where
  abbrev shape : Shape
  shape = volume.geometry

  abbrev judge : Judge
  judge = judge_of volume.geometry events history

  abbrev w : World
  w = a.reached.now

  good : Good (volume_as shape events) w
  good = good_there shape limits.volume events posts history known sent a.reached

  served_is : w.client.served ≡ judge.now.session
  served_is = a.reached.matches.client.served

  -- a session that the abstract client knows, and the lines make known
  module _ (e : ℕ) (session : Session) (at : known_at judge e ≡ Some session) where
    listed : w.client.lists e ≡ touching shape session.list
    listed = a.reached.matches.client.lists e ∙ ap (list_of shape) at

    started : w.client.starts e ≡ session.base
    started = a.reached.matches.client.starts e ∙ ap start_of at

    long_as : length (w.client.lists e) ≡ length session.list
    long_as = ap length listed ∙ length-touching shape session.list

    same_number : (g : ℕ) → g < regions volume.geometry → (s : ℕ) → s ≤ length session.list → number (w.client.lists e) (w.client.starts e) s g ≡ number_of shape session s g
    same_number g inside s within =
        ap (λ (l : List (List ℕ)). number l (w.client.starts e) s g) listed
        ∙ (ap (λ (b : ℕ). number (touching shape session.list) b s g) started
        ∙ number_same shape session (a.standing.settled.sized session e at) g inside s within)

  -- ---- of one node that counts, and one of its contents

  module _ (name : NodeName) (inside : IsOfVolume volume.geometry name) (counting : counts events history name ≡ true) (held : Held) (among : IsAmong held (known name).contents) where
    abbrev r : ℕ
    r = node_number volume.geometry name

    region_is : region_of_node shape r ≡ name.region
    region_is = region_numbered shape limits.volume name inside

    counts_now : w.counts r ≡ true
    counts_now = counts_there shape limits.volume events posts history known sent a.reached name inside counting

    image_now : Mem (image_of held) (w.images r)
    image_now = image_there shape limits.volume events posts history known sent a.reached name inside held among

    -- it is of the session that was opened last, or of a later one
    above : w.client.served ≤ held.session
    above = good.above r counts_now (image_of held) image_now

    present_here : judge.now.session ≤ held.session
    present_here = subst (λ (e : ℕ). e ≤ held.session) served_is above

    some_session : 0 < held.session
    some_session = let up = good.client.served_up in omega (arith, up, above)

    stands : HeldStands shape name.region w.client held
    stands = among_all (HeldStands shape name.region w.client) (known name).contents held among (a.reached.stand name inside).each

    right_here : HasRight shape judge name.region held
    right_here = (right.nodes name inside).each held among

    sound_held : IsSoundHeld shape volume.key judge name.region held
    sound_held = tagged_sound shape volume.key judge name.region w.client held stands (among_all (OfHeld (λ (rec : Record). IsTagged shape volume.key judge rec)) (known name).contents held among (a.owns name inside).each)

    -- its open base
    record OpenBase : Type 0 where
      base : Base
      there : IsAmong base held.bases
      session : base.rec.header.session ≡ held.session
      place : open_place held ≡ base.rec.header.seq
      only : (other : Base) → IsAmong other held.bases → other.rec.header.session ≡ held.session → other ≡ base

    open_base : OpenBase
    open_base =
        ⊎_elim (λ (closed : (held.session ≡ 0) × (held.parts ≡ [])). let nothing : held.session ≡ 0 = closed.0 in absurd (omega (arith, nothing, some_session)))
        (λ (is : (0 < held.session) × (view : View) × Opened shape name.region w.client held view).
        let view : View = is.1 in
        let o : Opened shape name.region w.client held view = is.2 in
        record {
          base = o.base;
          there = (opened_among shape name.region w.client held view o).0;
          session = opened_session shape name.region w.client held view o;
          place = opened_place shape name.region w.client held view o;
          only = λ other m same. ⊎_elim (λ (one : other ≡ o.base). one) (λ nothing. absurd nothing)
              (subst (λ (l : List Base). IsAmong other l) o.only (among_filter-in (λ b. is_open_base held b) held.bases other m (eq-eqb other.rec.header.session held.session same)));
        }) stands.open_is

    -- what its image covers of a known session, it covers
    module _ (e s : ℕ) (some : 0 < e) (session : Session) (at : known_at judge e ≡ Some session) (within : s ≤ length session.list) where
      sound_base : (base : Base) → IsAmong base held.bases → base.rec.header.session ≡ e → IsSound shape session name.region base
      sound_base base m is =
          let own : IsRightBase shape judge name.region base = right_here base m in
          let here : BaseStands shape name.region w.client held.session base = among_all (BaseStands shape name.region w.client held.session) held.bases base m stands.bases in
          let same : own.known ≡ session = same_Some own.known session (sym own.at ∙ (ap (known_at judge) is ∙ at)) in
          let of : is_of base.rec.header.session name.region base.rec.header ≡ true = and_left (is_of base.rec.header.session name.region base.rec.header) (has_shape shape base.blocks) here.stands in
          record {
            session = is ∙ sym (known-session judge e session at);
            region = eqb-true base.rec.header.region name.region (and_right (base.rec.header.session == base.rec.header.session) (base.rec.header.region == name.region) of);
            blocks = own.blocks ∙ ap (λ (k : Session). blocks_in shape (contents_after k base.rec.header.seq) name.region) same;
          }

      own_parts : held.session ≡ e → AllByRecursion (λ (rec : Record). IsPartOf shape volume.key session name.region rec) held.parts
      own_parts is = all_among (λ (rec : Record). IsPartOf shape volume.key session name.region rec) held.parts own where
        own : (rec : Record) → IsAmong rec held.parts → IsPartOf shape volume.key session name.region rec
        own rec m =
            let part : IsSoundPart shape volume.key judge name.region held.session rec = sound_held.parts rec m in
            let same : part.known ≡ session = same_Some part.known session (sym part.at ∙ (ap (known_at judge) is ∙ at)) in
            subst (λ (k : Session). IsPartOf shape volume.key k name.region rec) same part.part

      covers_as : ImageCovers w.client (region_of_node shape r) (image_of held) e s → Covers shape volume.key judge name.region e s held
      covers_as covers =
          held_covers shape volume.key judge name.region w.client held stands e s some session at (same_number e session at name.region inside.0 s within) sound_base own_parts
          (subst (λ (g : ℕ). ImageCovers w.client g (image_of held) e s) region_is covers)

    -- ---- acknowledged and claimed batches

    now_some : 0 < judge.now.session
    now_some = subst (λ (e : ℕ). 0 < e) served_is good.client.served_up

    covers_acked : (s : ℕ) → s ≤ judge.acked → Covers shape volume.key judge name.region judge.now.session s held
    covers_acked s low =
        let acked : w.client.acked ≡ judge.acked = a.reached.matches.client.acked in
        let front : w.client.acked ≤ length (w.client.lists w.client.served) = good.client.acked_within in
        let long : length (w.client.lists w.client.served) ≡ length judge.now.list = ap (λ (e : ℕ). length (w.client.lists e)) served_is ∙ long_as judge.now.session judge.now (now-known judge) in
        covers_as judge.now.session s now_some judge.now (now-known judge) (omega (arith, low, acked, front, long))
        (subst (λ (e : ℕ). ImageCovers w.client (region_of_node shape r) (image_of held) e s) served_is
        (acks_covered (volume_as shape events) w good s (omega (arith, low, acked)) r counts_now (image_of held) image_now))

    covers_claim : (t : Claim) → ClaimGood (volume_as shape events) w.client w.images w.counts t → (w.counts t.node ≡ true) ⊎ (t.counted ≡ true) → Covers shape volume.key judge name.region t.session t.front held
    covers_claim t one either =
        ⊎_elim (λ (same : t.session ≡ w.client.served).
        let sure : Settled (volume_as shape events) w.client w.images w.counts t.front = one.settled either same in
        let long : length (w.client.lists w.client.served) ≡ length judge.now.list = ap (λ (e : ℕ). length (w.client.lists e)) served_is ∙ long_as judge.now.session judge.now (now-known judge) in
        subst (λ (e : ℕ). Covers shape volume.key judge name.region e t.front held) (sym (same ∙ served_is))
        (covers_as judge.now.session t.front now_some judge.now (now-known judge) (subst (λ (k : ℕ). t.front ≤ k) long sure.within)
        (subst (λ (e : ℕ). ImageCovers w.client (region_of_node shape r) (image_of held) e t.front) served_is
        (⊎_elim (λ (past : w.client.served < held.session). inl past) (λ here. inr (inl here)) (sure.all r counts_now (image_of held) image_now)))))
        (λ (older : t.session < w.client.served). inl (omega (arith, older, above))) (eq-or-lt_of_le one.old)

    covers_claimed : (k : ℕ) (other : NodeName) (claim : Committed) → IsOfVolume volume.geometry other → k ≤ sent_in history → IsSaid posts k (sender.Node other) (message.Committed claim)
        → CountsOrCounted events other k history → Covers shape volume.key judge name.region claim.session claim.front held
    covers_claimed k other claim valid low said (inl counts_too) =
        let honest = honest_there shape limits.volume events posts history known sent a.reached other valid counts_too in
        let there : (counted : Bool) × Mem (claim_as shape other counted claim) w.claims =
        a.reached.matches.messages k said.counted (subst (λ (m : ℕ). k ≤ m) a.count low) said.post said.at other said.from_is honest (message.Committed claim) said.reads in
        covers_claim (claim_as shape other there.0 claim) (good.claims (claim_as shape other there.0 claim) there.1) (inl (counts_there shape limits.volume events posts history known sent a.reached other valid counts_too))
    covers_claimed k other claim valid low said (inr then) = covers_claim (claim_as shape other true claim) (settled k other claim valid said then) (inr refl)

    -- ---- the session that it is in

    record KnownHere : Type 0 where
      session : Session
      at : known_at judge held.session ≡ Some session

    known_here : KnownHere
    known_here =
        let image : ImageGood w.client (region_of_node shape r) (image_of held) = good.nodes r (image_of held) image_now in
        ⊎_elim (λ (nothing : held.session ≡ 0). absurd (omega (arith, nothing, some_session))) (λ (one : (session : Session) × (known_at judge held.session ≡ Some session)). record { session = one.0; at = one.1 })
        (a.reached.matches.client.known_there held.session image.known)

    -- ---- bases of a session that is switched to

    holds_switched : (k : ℕ) (switch : Switch) → k ≤ sent_in history → IsSaid posts k sender.Client (message.Switch switch) → (switch.session < held.session) ⊎ HoldsBase switch.session held
    holds_switched k switch low said =
        let told : Mem switch.session w.client.switches = a.reached.clients k said.counted (subst (λ (m : ℕ). k ≤ m) a.count low) said.post said.at said.from_is (message.Switch switch) said.reads in
        ⊎_elim (λ (staged : Mem switch.session (later_sessions held)).
        let found = among_map (λ (b : Base). b.rec.header.session) switch.session (later_bases held)
        (mem_among switch.session (map (λ (b : Base). b.rec.header.session) (later_bases held)) (mem_turned switch.session (map (λ (b : Base). b.rec.header.session) (later_bases held)) staged)) in
        let there = among_filter (λ b. nat_lt held.session b.rec.header.session) found.0 held.bases found.1 in
        inr (found.0, there.0, sym found.2))
        (λ (up : switch.session ≤ held.session).
        ⊎_elim (λ (same : switch.session ≡ held.session). inr (open_base.base, open_base.there, open_base.session ∙ sym same)) (λ (past : switch.session < held.session). inl past) (eq-or-lt_of_le up))
        (good.bases switch.session told r counts_now (image_of held) image_now)

  -- ---- places of bases

  covers_placed : (name : NodeName) (inside : IsOfVolume volume.geometry name) (counting : counts events history name ≡ true) (held : Held) (among : IsAmong held (known name).contents)
      (base : Base) → IsAmong base held.bases → base.rec.header.session ≡ held.session
      → (other : NodeName) (valid : IsOfVolume volume.geometry other) (counts_too : counts events history other ≡ true) (has : Held) (has_among : IsAmong has (known other).contents)
      → Covers shape volume.key judge other.region held.session base.rec.header.seq has
  covers_placed name inside counting held among base m same other valid counts_too has has_among =
      let q : ℕ = node_number shape name in
      let i : Image = image_of held in
      let there : Mem i (w.images q) = image_now name inside counting held among in
      let image : ImageGood w.client (region_of_node shape q) i = good.nodes q i there in
      let own : OpenBase name inside counting held among = open_base name inside counting held among in
      let session : KnownHere name inside counting held among = known_here name inside counting held among in
      let place : open_place held ≡ base.rec.header.seq = own.place ∙ ap (λ (b : Base). b.rec.header.seq) (sym (own.only base m same)) in
      let long : length (w.client.lists held.session) ≡ length session.session.list = long_as held.session session.session session.at in
      let low : open_place held ≤ length (w.client.lists held.session) = image.within in
      subst (λ (s : ℕ). Covers shape volume.key judge other.region held.session s has) place
      (covers_as other valid counts_too has has_among held.session (open_place held) (some_session name inside counting held among) session.session session.at (omega (arith, low, long))
      (places_covered (volume_as shape events) w good q (counts_now name inside counting held among) i there (node_number shape other) (counts_now other valid counts_too has has_among) (image_of has)
      (image_now other valid counts_too has has_among)))

  -- ---- all of it

  pub covered_here : AreCovered volume events posts history (MayMean volume events posts known)
  covered_here = record {
    present = present_here;
    acknowledged = λ s low name inside counting held among. covers_acked name inside counting held among s low;
    claimed = λ k other claim valid low said either name inside counting held among. covers_claimed name inside counting held among k other claim valid low said either;
    placed = covers_placed;
    switched = λ k switch low said name inside counting held among. holds_switched name inside counting held among k switch low said;
  }
