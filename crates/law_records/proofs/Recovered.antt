-- What the abstract model has as recoverable from the replies of sound nodes is recoverable from the pool of all replies; so
-- the choice is at least as great, and there is one.
use Rattle.std.proofs.Common.{◌≡◌, ◌⊎◌, ℕ, zero, suc, ◌+◌, ◌<◌, ◌≤◌, ◌∙◌, Bool, true, ◌==◌, nat_lt, cond, List, [], ◌∷◌, ◌++◌, length, map, reverse, Option, None, Some, is_some, inl, inr, refl, ap, sym, subst, arith, length-append}
use Rattle.std.specs.Prelude.{filter, find, flat_map, slice_index}
use Rattle.std.specs.Option.{option_map_or}
use Rattle.std.proofs.lemmas.Bool.{eq-eqb, eqb-true, false≢true}
use Rattle.std.proofs.lemmas.Option.{same_Some}
use Rattle.std.proofs.lemmas.List.{reverse-append}
use Rattle.std.proofs.lemmas.List.Elements.{filter-append}
use Rattle.std.proofs.lemmas.Nat.{div-mul-add}
use Rattle.salus_types.specs.Volume.{Shape, regions}
use Rattle.salus_types.specs.declared.names.NodeName.{NodeName}
use Rattle.salus_types.specs.declared.records.Header.{Header}
use Rattle.salus_types.specs.declared.records.Record.{Record}
use Rattle.salus_types.specs.declared.records.Base.{Base}
use Rattle.salus_types.specs.declared.records.Held.{Held}
use Rattle.schedule_text.specs.declared.schedule.Event.{Event}
use Rattle.merkle_region.specs.Tree.{tree_strings, IsAmong, NoTwoCollide}
use Rattle.merkle_region.proofs.Membership.{among_left, among_right, among_either}
use Rattle.holding_model.specs.Fitting.{has_content}
use Rattle.holding_model.specs.Changing.{is_open_base}
use Rattle.volume_model.specs.Contents.{blocks_in}
use Rattle.volume_model.specs.Parts.{Session, contents_after, number_of}
use Rattle.volume_model.specs.Recovering.{Pool, is_of, ends_of, record_counts, base_counts, is_recoverable, choice_of}
use Rattle.salus_model.specs.Judge.{Judge, known_at}
use Rattle.salus_model.specs.Forgery.{IsPartOf}
use Rattle.salus_model.specs.Covering.{Links}
use Rattle.salus_model.specs.Opening.{Reply, headers_in, pool_of}
use Rattle.list_lemmas.proofs.Members.{among_map, among_map-in, among_filter, among_filter-in, among_flat_map-in, find_among}
use Rattle.list_lemmas.proofs.Tests.{not_both}
use Rattle.law_lemmas.proofs.Settled.{EachKnown}
use Rattle.law_lemmas.proofs.Numbered.{IsSized, numbered}
use Rattle.law_lemmas.proofs.Owned.{IsOwn, IsTold, told, own_of, known-session}
use Rattle.law_history.proofs.Chained.{IsRightEnd, IsGoodBase, right_ends}
use Rattle.law_history.proofs.Chosen.{IsTaggedPool, HasContents}
use Rattle.law_prefix.specs.Numbers as abstract
use Rattle.law_prefix.specs.Numbers.{Mem}
use Rattle.law_prefix.specs.Images.{Part, reach, HasChain}
use Rattle.law_prefix.specs.World as model
use Rattle.law_prefix.specs.Steps.{HoldsChain, HoldsHeader, Offers, IsRecoverable}
use Rattle.kept_model.specs.Nodes.{node_number, region_of_node, volume_as}
use Rattle.kept_model.specs.Batches.{touching, list_of, start_of, list_at, start_at}
use Rattle.kept_model.specs.Images.{part_as, parts_as, open_place, later_bases, later_sessions, image_of}
use Rattle.kept_model.specs.Sound.{IsSoundBase, IsSoundPart}
use Rattle.law_records.proofs.Numbers.{number_as}
use Rattle.law_records.specs.Sessions.{IsCountable}
use Rattle.law_records.specs.Replying.{IsSoundReply, IsOfSound}
use Rattle.law_records.proofs.Own.{own-session, own-region, own-top, part-seq, base_says, linked_as}
use Rattle.law_records.proofs.Content.{part-content}
use Rattle.law_records.proofs.Counted.{own-counts, own_base-counts, both_true}
use Rattle.law_records.proofs.Chains.{IsChained, EndsAt, chain_of}
use Rattle.law_records.proofs.Choices.{AtLeast, choice_least, HasEnd, recoverable}

-- ---- members, as both models have them

pub mem_among : {A : Type 0} (x : A) (xs : List A) → Mem x xs → IsAmong x xs
mem_among x [] m = absurd m
mem_among x (y ∷ xs) (inl e) = inl e
mem_among x (y ∷ xs) (inr m) = inr (mem_among x xs m)

pub among_mem : {A : Type 0} (x : A) (xs : List A) → IsAmong x xs → Mem x xs
among_mem x [] m = absurd m
among_mem x (y ∷ xs) (inl e) = inl e
among_mem x (y ∷ xs) (inr m) = inr (among_mem x xs m)

among_reversed : {A : Type 0} (x : A) (xs : List A) → IsAmong x (reverse xs) → IsAmong x xs
among_reversed x [] m = absurd m
among_reversed x (y ∷ xs) m = elim (among_either x (reverse xs) (reverse (y ∷ [])) (subst (λ l. IsAmong x l) (reverse-append (y ∷ []) xs) m)) [
  | inl before ↦ inr (among_reversed x xs before)
  | inr (inl here) ↦ inl here
  | inr (inr none) ↦ absurd none
]

-- ---- the region of a node

pub region-number : (shape : Shape) (name : NodeName) → name.replica < shape.replicas → region_of_node shape (node_number shape name) ≡ name.region
region-number shape name inside = div-mul-add name.region shape.replicas name.replica inside

-- ---- parts up to some place

-- a front stretch of parts that link
record FrontLinks (from : ℕ) (parts : List Record) (front : List Part) : Type 0 where
  own : List Record
  within : (rec : Record) → IsAmong rec own → IsAmong rec parts
  few : length own ≤ length parts
  same : parts_as own ≡ front
  to : ℕ
  links : Links from own to

front_links : (from top : ℕ) (parts : List Record) (front rest : List Part) → Links from parts top → parts_as parts ≡ front ++ rest → FrontLinks from parts front
unfolding Links
front_links from top parts [] rest links joined = record { own = []; within = λ rec m. absurd m; few = omega arith; same = refl; to = from; links = refl }
front_links from top [] (p ∷ front) rest links joined = absurd (no_cons p (front ++ rest) joined) where
  no_cons : (p : Part) (ps : List Part) → [] ≡ p ∷ ps → ⊥
  no_cons p ps e = let n : 0 ≡ suc (length ps) = ap length e in absurd (omega arith)
front_links from top (rec ∷ parts) (p ∷ front) rest links joined =
    let more : FrontLinks rec.header.seq parts front = front_links rec.header.seq top parts front rest links.1 (ap tail joined) in
    let few = more.few in
    record {
      own = rec ∷ more.own;
      within = λ r m. elim m [ inl e ↦ inl e | inr n ↦ inr (more.within r n) ];
      few = omega arith;
      same = ap (λ q. q ∷ parts_as more.own) (ap (head p) joined) ∙ ap (λ ps. p ∷ ps) more.same;
      to = more.to;
      links = (links.0, more.links);
    }
  where
    tail : List Part → List Part
    tail [] = []
    tail (q ∷ qs) = qs

    head : Part → List Part → Part
    head d [] = d
    head d (q ∷ qs) = q

-- ---- the open base

open_found : (held : Held) (base : Base) → find (λ b. is_open_base held b) held.bases ≡ Some base → open_place held ≡ base.rec.header.seq
open_found held base found = ap (λ o. option_map_or (λ (b : Base). b.rec.header.seq) o 0) found

record OpenBase (held : Held) : Type 0 where
  base : Base
  among : IsAmong base held.bases
  session : base.rec.header.session ≡ held.session
  place : open_place held ≡ base.rec.header.seq

open_base : (held : Held) → 0 < held.session → (held.session ≡ 0) ⊎ (is_some (find (λ b. is_open_base held b) held.bases) ≡ true) → OpenBase held
open_base held some (inl blank) = absurd (omega arith)
open_base held some (inr begun) = by (find (λ b. is_open_base held b) held.bases) refl begun where
  by : (o : Option Base) → find (λ b. is_open_base held b) held.bases ≡ o → is_some o ≡ true → OpenBase held
  by None is none = absurd (false≢true none)
  by (Some base) is there =
      let from = find_among (λ b. is_open_base held b) base held.bases is in
      record { base = base; among = from.0; session = eqb-true base.rec.header.session held.session from.1; place = open_found held base is }

record LaterBase (held : Held) (e : ℕ) : Type 0 where
  base : Base
  among : IsAmong base held.bases
  later : IsAmong base (later_bases held)
  session : base.rec.header.session ≡ e

later_base : (held : Held) (e : ℕ) → Mem e (later_sessions held) → LaterBase held e
later_base held e m =
    let from = among_map (λ (base : Base). base.rec.header.session) e (later_bases held)
    (among_reversed e (map (λ (base : Base). base.rec.header.session) (later_bases held)) (mem_among e (later_sessions held) m)) in
    record {
      base = from.0;
      among = (among_filter (λ base. nat_lt held.session base.rec.header.session) from.0 held.bases from.1).0;
      later = from.1;
      session = sym from.2;
    }

-- ---- lengths

length_kept : {A B : Type 0} (test : B → Bool) (f : A → List B) (x : A) (xs : List A) → IsAmong x xs → length (filter test (f x)) ≤ length (filter test (flat_map f xs))
length_kept test f x [] m = absurd m
length_kept test f x (y ∷ xs) (inl e) =
    let split : filter test (f y ++ flat_map f xs) ≡ filter test (f y) ++ filter test (flat_map f xs) = filter-append test (f y) (flat_map f xs) in
    let same : length (filter test (f x)) ≡ length (filter test (f y)) = ap (λ z. length (filter test (f z))) e in
    let whole : length (filter test (f y ++ flat_map f xs)) ≡ length (filter test (f y)) + length (filter test (flat_map f xs)) =
    ap length split ∙ length-append (filter test (f y)) (filter test (flat_map f xs)) in
    omega arith
length_kept test f x (y ∷ xs) (inr m) =
    let split : filter test (f y ++ flat_map f xs) ≡ filter test (f y) ++ filter test (flat_map f xs) = filter-append test (f y) (flat_map f xs) in
    let rest : length (filter test (f x)) ≤ length (filter test (flat_map f xs)) = length_kept test f x xs m in
    let whole : length (filter test (f y ++ flat_map f xs)) ≡ length (filter test (f y)) + length (filter test (flat_map f xs)) =
    ap length split ∙ length-append (filter test (f y)) (filter test (flat_map f xs)) in
    omega arith

all_kept : {A : Type 0} (test : A → Bool) (xs : List A) → ((x : A) → IsAmong x xs → test x ≡ true) → filter test xs ≡ xs
all_kept test [] each = refl
all_kept test (x ∷ xs) each =
    ap (λ t. cond t (x ∷ filter test xs) (filter test xs)) (each x (inl refl)) ∙ ap (λ l. x ∷ l) (all_kept test xs (λ y m. each y (inr m)))

-- ---- a pool of replies, some of which are sound

pub sized_of : (shape : Shape) (known : Session) → IsCountable shape known → IsSized shape known
sized_of shape known can = record { long = can.long; begun = can.begun }

module _ (shape : Shape) (key : List ℕ) (judge : Judge) (strings : List (List ℕ)) (none : NoTwoCollide strings)
    (countable : EachKnown judge (IsCountable shape)) (contents : EachKnown judge (HasContents shape strings))
    (replies : List Reply) (tagged : IsTaggedPool shape key judge strings (pool_of shape key replies)) where
  abbrev pool : Pool
  pool = pool_of shape key replies

  abbrev all_sized : EachKnown judge (IsSized shape)
  all_sized = λ known e at. sized_of shape known (countable known e at)

  -- ---- what is held counts

  base_in : (r : Reply) (base : Base) → IsAmong r replies → IsAmong base r.held.bases → base_counts shape key base ≡ true → IsAmong base pool.bases
  unfolding pool_of
  base_in r base among m counts =
      among_filter-in (λ b. base_counts shape key b) (flat_map (λ (s : Reply). s.held.bases) replies) base (among_flat_map-in (λ (s : Reply). s.held.bases) r base replies among m) counts

  part_in : (r : Reply) (rec : Record) → IsAmong r replies → IsAmong rec r.held.parts → record_counts shape key rec ≡ true → IsAmong rec pool.parts
  unfolding pool_of
  part_in r rec among m counts =
      among_filter-in (λ p. record_counts shape key p) (flat_map (λ (s : Reply). s.held.parts) replies) rec (among_flat_map-in (λ (s : Reply). s.held.parts) r rec replies among m) counts

  base_header-in : (r : Reply) (base : Base) → IsAmong r replies → IsAmong base r.held.bases → base_counts shape key base ≡ true → IsAmong base.rec.header pool.headers
  unfolding pool_of
  base_header-in r base among m counts =
      among_flat_map-in (λ (s : Reply). headers_in shape key s.held) r base.rec.header replies among
      (among_left base.rec.header (map (λ (b : Base). b.rec.header) (filter (λ b. base_counts shape key b) r.held.bases)) _
      (among_map-in (λ (b : Base). b.rec.header) (filter (λ b. base_counts shape key b) r.held.bases) base
      (among_filter-in (λ b. base_counts shape key b) r.held.bases base m counts)))

  part_header-in : (r : Reply) (rec : Record) → IsAmong r replies → IsAmong rec r.held.parts → record_counts shape key rec ≡ true → IsAmong rec.header pool.headers
  unfolding pool_of
  part_header-in r rec among m counts =
      among_flat_map-in (λ (s : Reply). headers_in shape key s.held) r rec.header replies among
      (among_right rec.header (map (λ (b : Base). b.rec.header) (filter (λ b. base_counts shape key b) r.held.bases)) _
      (among_map-in (λ (p : Record). p.header) (filter (λ p. record_counts shape key p) r.held.parts) rec
      (among_filter-in (λ p. record_counts shape key p) r.held.parts rec m counts)))

  many_parts : (r : Reply) → IsAmong r replies → ((rec : Record) → IsAmong rec r.held.parts → record_counts shape key rec ≡ true) → length r.held.parts ≤ length pool.parts
  unfolding pool_of
  many_parts r among each =
      let all : filter (λ p. record_counts shape key p) r.held.parts ≡ r.held.parts = all_kept (λ p. record_counts shape key p) r.held.parts each in
      let kept : length (filter (λ p. record_counts shape key p) r.held.parts) ≤ length (filter (λ p. record_counts shape key p) (flat_map (λ (s : Reply). s.held.parts) replies)) =
      length_kept (λ p. record_counts shape key p) (λ (s : Reply). s.held.parts) r replies among in
      subst (λ l. length l ≤ length (filter (λ p. record_counts shape key p) (flat_map (λ (s : Reply). s.held.parts) replies))) all kept

  module _ (r : Reply) (sound : IsSoundReply shape key judge replies r) where
    abbrev g : ℕ
    g = r.name.region

    sound_base-counts : (base : Base) → IsSoundBase shape key judge g base → base_counts shape key base ≡ true
    sound_base-counts base is =
        let can = countable is.known base.rec.header.session is.at in
        own_base-counts shape key is.known (sized_of shape is.known can) can.small can.some g base is.own is.fits is.whole is.root

    sound_part-counts : (rec : Record) → IsSoundPart shape key judge g r.held.session rec → record_counts shape key rec ≡ true
    sound_part-counts rec is =
        let can = countable is.known r.held.session is.at in
        own-counts shape key is.known (sized_of shape is.known can) can.small can.some g rec (inl is.part) is.fits

    part_session : (rec : Record) → IsSoundPart shape key judge g r.held.session rec → rec.header.session ≡ r.held.session
    part_session rec is = own-session shape key is.known g rec (inl is.part) ∙ known-session judge r.held.session is.known is.at

    -- ---- a header

    pub record HasHeader (e x : ℕ) : Type 0 where
      pub rec : Record
      pub among : IsAmong rec.header pool.headers
      pub session : rec.header.session ≡ e
      pub seq : rec.header.seq ≡ x
      pub known : Session
      pub at : known_at judge e ≡ Some known
      pub own : IsOwn shape key known g rec

    header_of-base : (base : Base) (e x : ℕ) → IsAmong base r.held.bases → base.rec.header.session ≡ e → base.rec.header.seq ≡ x → HasHeader e x
    header_of-base base e x m session seq =
        let is : IsSoundBase shape key judge g base = sound.held.bases base m in
        record {
          rec = base.rec;
          among = base_header-in r base sound.among m (sound_base-counts base is);
          session = session;
          seq = seq;
          known = is.known;
          at = sym (ap (known_at judge) session) ∙ is.at;
          own = is.own;
        }

    header_of-part : (p : Part) (x : ℕ) → Mem p (parts_as r.held.parts) → suc p.before ≡ x → HasHeader r.held.session x
    header_of-part p x m ends =
        let from = among_map (λ rec. part_as rec) p r.held.parts (mem_among p (parts_as r.held.parts) m) in
        let is : IsSoundPart shape key judge g r.held.session from.0 = sound.held.parts from.0 from.1 in
        record {
          rec = from.0;
          among = part_header-in r from.0 sound.among from.1 (sound_part-counts from.0 is);
          session = part_session from.0 is;
          seq = part-seq shape key is.known g from.0 is.part ∙ (ap (λ (q : Part). suc q.before) (sym from.2) ∙ ends);
          known = is.known;
          at = is.at;
          own = inl is.part;
        }

    -- a base of a session above the open one stands where its session starts
    later_start : (base : Base) → IsAmong base r.held.bases → IsAmong base (later_bases r.held) → base.rec.header.seq ≡ start_at judge base.rec.header.session
    later_start base m later =
        let is : IsSoundBase shape key judge g base = sound.held.bases base m in
        by is.own is.at
      where
        by : (is : IsOwn shape key (sound.held.bases base m).known g base.rec) → known_at judge base.rec.header.session ≡ Some (sound.held.bases base m).known
            → base.rec.header.seq ≡ start_at judge base.rec.header.session
        by (inl part) at = absurd (not_both (has_content base.rec.writes base.rec.run) (part-content shape key (sound.held.bases base m).known g base.rec part) (sound.held.unfolded base later))
        by (inr own) at = (base_says shape key (sound.held.bases base m).known g base.rec own).seq ∙ ap start_of (sym at)

    pub header_of : (c : model.Client) → ((e : ℕ) → c.starts e ≡ start_at judge e) → (e x : ℕ) → 0 < e → HoldsHeader c (image_of r.held) e x → HasHeader e x
    header_of c starts e x some (inl here) = in_session here.0 here.1 where
      in_session : r.held.session ≡ e → (open_place r.held ≡ x) ⊎ ((p : Part) × Mem p (parts_as r.held.parts) × (suc p.before ≡ x)) → HasHeader e x
      in_session session (inl place) =
          let base : OpenBase r.held = open_base r.held (omega (arith, session, some)) sound.held.begun in
          header_of-base base.base e x base.among (base.session ∙ session) (sym base.place ∙ place)
      in_session session (inr part) = subst (λ k. HasHeader k x) session (header_of-part part.0 x part.1 part.2)
    header_of c starts e x some (inr later) =
        let base : LaterBase r.held e = later_base r.held e later.0 in
        header_of-base base.base e x base.among base.session
        (later_start base.base base.among base.later ∙ (ap (start_at judge) base.session ∙ (sym (starts e) ∙ later.1)))

    -- ---- a chain

    of_here : (e : ℕ) (h : Header) → h.session ≡ e → h.region ≡ g → is_of e g h ≡ true
    of_here e h session region = both_true (h.session == e) (h.region == g) (eq-eqb h.session e session) (eq-eqb h.region g region)

    module _ (e : ℕ) (known : Session) (at : known_at judge e ≡ Some known) where
      abbrev sized : IsSized shape known
      sized = sized_of shape known (countable known e at)

      abbrev bases_here : List Base
      bases_here = filter (λ (base : Base). is_of e g base.rec.header) pool.bases

      abbrev parts_here : List Record
      parts_here = filter (λ (rec : Record). is_of e g rec.header) pool.parts

      good_base : (base : Base) → IsAmong base bases_here → IsGoodBase shape key known g strings base
      good_base base m =
          let kept = among_filter (λ (b : Base). is_of e g b.rec.header) base pool.bases m in
          let good = tagged.bases base kept.0 in
          record { own = own_of shape key judge known e g base.rec at sized all_sized kept.1 good.tagged; long = good.long; root = good.root; seen = good.seen }

      good_part : (rec : Record) → IsAmong rec parts_here → IsOwn shape key known g rec
      good_part rec m =
          let kept = among_filter (λ (p : Record). is_of e g p.header) rec pool.parts m in
          own_of shape key judge known e g rec at sized all_sized kept.1 (tagged.parts rec kept.0)

      seen_here : (s : ℕ) (x : List ℕ) → s ≤ length known.list → IsAmong x (tree_strings shape.height (blocks_in shape (contents_after known s) g)) → IsAmong x strings
      seen_here s x within among = contents known e at s g x within sound.inside among

      base_here : (base : Base) → IsAmong base r.held.bases → base.rec.header.session ≡ e → IsAmong base bases_here
      base_here base m session =
          let is : IsSoundBase shape key judge g base = sound.held.bases base m in
          among_filter-in (λ (b : Base). is_of e g b.rec.header) pool.bases base (base_in r base sound.among m (sound_base-counts base is))
          (of_here e base.rec.header session (own-region shape key is.known g base.rec is.own))

      part_here : (rec : Record) → IsAmong rec r.held.parts → r.held.session ≡ e → IsChained shape key known g parts_here rec
      part_here rec m session =
          let is : IsSoundPart shape key judge g r.held.session rec = sound.held.parts rec m in
          let same : is.known ≡ known = same_Some is.known known (sym is.at ∙ (ap (known_at judge) session ∙ at)) in
          let part : IsPartOf shape key known g rec = subst (λ k. IsPartOf shape key k g rec) same is.part in
          record {
            among = among_filter-in (λ (p : Record). is_of e g p.header) pool.parts rec (part_in r rec sound.among m (sound_part-counts rec is))
                (of_here e rec.header (part_session rec is ∙ session) (own-region shape key known g rec (inl part)));
            part = part;
          }

      -- parts that link from a base
      ends_from : (base : Base) (front : List Record) (to : ℕ) → IsAmong base bases_here → ((rec : Record) → IsAmong rec front → IsChained shape key known g parts_here rec)
          → Links base.rec.header.seq front to → length front ≤ length pool.parts → HasEnd shape pool known e g to
      unfolding ends_of
      ends_from base front to m each links few =
          let last : EndsAt shape bases_here parts_here (length pool.parts) to =
          chain_of shape key known sized g sound.inside strings none seen_here bases_here parts_here good_base good_part base front to (length pool.parts) m each links few in
          let right : IsRightEnd shape known g last.end =
          right_ends shape key known sized g sound.inside strings none seen_here bases_here parts_here good_base good_part (length pool.parts) last.end last.among in
          record { end = last.end; among = last.among; up_to = last.at; blocks = right.blocks ∙ ap (λ n. blocks_in shape (contents_after known n) g) last.at }

      end_open : (y : ℕ) → 0 < e → r.held.session ≡ e → HasChain (open_place r.held) (parts_as r.held.parts) y → HasEnd shape pool known e g y
      end_open y some session chain =
          let base : OpenBase r.held = open_base r.held (omega (arith, session, some)) sound.held.begun in
          let front : FrontLinks (open_place r.held) r.held.parts chain.front = front_links (open_place r.held) sound.held.top r.held.parts chain.front chain.rest sound.held.links chain.joined in
          let each : (rec : Record) → IsAmong rec front.own → IsChained shape key known g parts_here rec = λ rec m. part_here rec (front.within rec m) session in
          let reached : reach (open_place r.held) (parts_as front.own) ≡ front.to =
          (linked_as shape key known g sized front.own (open_place r.held) front.to (λ rec m. (each rec m).part) front.links).1 in
          let to : front.to ≡ y = sym reached ∙ (ap (reach (open_place r.held)) front.same ∙ chain.ends) in
          let few : length front.own ≤ length r.held.parts = front.few in
          let many : length r.held.parts ≤ length pool.parts = many_parts r sound.among (λ rec m. sound_part-counts rec (sound.held.parts rec m)) in
          subst (λ n. HasEnd shape pool known e g n) to
          (ends_from base.base front.own front.to (base_here base.base base.among (base.session ∙ session)) each
          (subst (λ n. Links n front.own front.to) base.place front.links) (omega (arith, few, many)))

      end_later : (y : ℕ) → Mem e (later_sessions r.held) → y ≡ start_at judge e → HasEnd shape pool known e g y
      unfolding Links
      end_later y m start =
          let base : LaterBase r.held e = later_base r.held e m in
          ends_from base.base [] y (base_here base.base base.among base.session) (λ rec n. absurd n)
          (later_start base.base base.among base.later ∙ (ap (start_at judge) base.session ∙ sym start)) (omega arith)

      pub end_of : (c : model.Client) → ((k : ℕ) → c.starts k ≡ start_at judge k) → (y : ℕ) → 0 < e → HoldsChain c (image_of r.held) e y → HasEnd shape pool known e g y
      end_of c starts y some (inl here) = end_open y some here.0 here.1
      end_of c starts y some (inr later) = end_later y later.0 (later.1 ∙ starts e)

  -- ---- the abstract pool

  module _ (events : List Event) (w : model.World) (lists : (e : ℕ) → w.client.lists e ≡ list_at shape judge e) (starts : (e : ℕ) → w.client.starts e ≡ start_at judge e)
      (asked : ℕ) (all : List model.Reply) (sound : (t : model.Reply) → Mem t all → IsOfSound shape key judge replies asked t) where
    -- a header of the pool that is recoverable
    pub record Recovers (e x : ℕ) : Type 0 where
      pub header : Header
      pub among : IsAmong header pool.headers
      pub session : header.session ≡ e
      pub seq : header.seq ≡ x
      pub is : is_recoverable shape pool header ≡ true

    end_for : (g e y : ℕ) (known : Session) → known_at judge e ≡ Some known → 0 < e → Offers (volume_as shape events) w all g e y → HasEnd shape pool known e g y
    end_for g e y known at some offers =
        let of : IsOfSound shape key judge replies asked offers.reply = sound offers.reply offers.sent in
        let region : of.reply.name.region ≡ g =
        sym (region-number shape of.reply.name of.sound.replica) ∙ (ap (λ (t : model.Reply). region_of_node shape t.node) (sym of.is) ∙ offers.region) in
        let chain : HoldsChain w.client (image_of of.reply.held) e y = subst (λ (t : model.Reply). HoldsChain w.client t.held e y) of.is offers.chain in
        subst (λ r. HasEnd shape pool known e r y) region (end_of of.reply of.sound e known at w.client starts y some chain)

    pub recovers_as : (e x : ℕ) → 0 < e → IsRecoverable (volume_as shape events) w all e x → Recovers e x
    recovers_as e x some is =
        let of : IsOfSound shape key judge replies asked is.reply = sound is.reply is.sent in
        let found : HasHeader of.reply of.sound e x = header_of of.reply of.sound w.client starts e x some (subst (λ (t : model.Reply). HoldsHeader w.client t.held e x) of.is is.header) in
        let h : Header = found.rec.header in
        let known : Session = found.known in
        let sized : IsSized shape known = sized_of shape known (countable known e found.at) in
        let says : IsTold shape known of.reply.name.region h = told shape key known sized of.reply.name.region found.rec found.own in
        let above : known.base ≤ x = subst (λ n. known.base ≤ n) found.seq says.above in
        let within : x ≤ length known.list = subst (λ n. n ≤ length known.list) found.seq says.within in
        let front : (g : ℕ) → g < regions shape → slice_index h.fronts g ≡ number_of shape known x g = λ g inside. says.fronts g inside ∙ ap (λ n. number_of shape known n g) found.seq in
        let here : (g : ℕ) → g < regions shape → abstract.number (w.client.lists e) (w.client.starts e) x g ≡ number_of shape known x g = λ g inside.
        ap (λ l. abstract.number l (w.client.starts e) x g) (lists e ∙ ap (list_of shape) found.at)
        ∙ (ap (λ n. abstract.number (touching shape known.list) n x g) (starts e ∙ ap start_of found.at)
        ∙ number_as shape known sized g inside x above within) in
        record {
          header = h;
          among = found.among;
          session = found.session;
          seq = found.seq;
          is = recoverable shape pool known h
              (λ g inside. subst (λ k. HasEnd shape pool known k g (slice_index h.fronts g)) (sym found.session)
              (subst (λ n. HasEnd shape pool known e g n) (here g inside ∙ sym (front g inside))
              (end_for g e (abstract.number (w.client.lists e) (w.client.starts e) x g) known found.at some (is.chains g inside))))
              (λ g inside. ap (λ n. blocks_in shape (contents_after known n) g) (front g inside)
              ∙ ((numbered shape known sized g x inside above within).blocks ∙ ap (λ n. blocks_in shape (contents_after known n) g) (sym found.seq)))
              (own-top shape key known of.reply.name.region found.rec found.own);
        }

    -- the choice is at least as great
    pub choice_above : (e x : ℕ) (h : Header) → 0 < h.session → choice_of shape pool ≡ Some h → IsRecoverable (volume_as shape events) w all e x
        → (e < h.session) ⊎ (e ≡ h.session) × (x ≤ h.seq)
    choice_above e x h some choice is = at_session e refl where
      at_session : (k : ℕ) → e ≡ k → (e < h.session) ⊎ (e ≡ h.session) × (x ≤ h.seq)
      at_session zero blank = inl (omega (arith, blank, some))
      at_session (suc k) later =
          let from : Recovers e x = recovers_as e x (omega (arith, later)) is in
          let least : AtLeast from.header (Some h) = subst (AtLeast from.header) choice (choice_least shape pool from.header from.among from.is) in
          let session : from.header.session ≡ e = from.session in
          let seq : from.header.seq ≡ x = from.seq in
          grind (arith, least, session, seq)

    -- and where something is recoverable there is one
    pub some_choice : (e x : ℕ) → 0 < e → IsRecoverable (volume_as shape events) w all e x → is_some (choice_of shape pool) ≡ true
    some_choice e x some is = by (choice_of shape pool) refl where
      by : (o : Option Header) → choice_of shape pool ≡ o → is_some o ≡ true
      by None none = let from : Recovers e x = recovers_as e x some is in absurd (subst (AtLeast from.header) none (choice_least shape pool from.header from.among from.is))
      by (Some h) there = refl
