-- What each change makes of what is held, and of its image.
use Rattle.std.proofs.Common.{◌≡◌, ◌∙◌, inl, inr, ⊎_elim, ℕ, suc, ◌+◌, ◌-◌, ◌<◌, ◌≤◌, ◌==◌, ◌&&◌, not, nat_le, nat_lt, Bool, true, false, if◌then◌else◌, List, [], ◌∷◌, ◌++◌, length, map, Option, None, Some, refl, sym, ap, subst, arith, le_trans}
use Rattle.std.specs.Prelude.{filter, find, reverse}
use Rattle.std.specs.Option.{option_map_or}
use Rattle.std.specs.List.{AllByRecursion}
use Rattle.std.proofs.lemmas.Bool.{eqb-true, eq-eqb, ltb-true, leb-true, leb-false, lt-ltb, lt-leb, le-ltb, le-leb, cond-true, cond-false}
use Rattle.std.proofs.lemmas.List.{append-nil, map-append, reverse-append}
use Rattle.std.proofs.lemmas.List.Elements.{filter-append}
use Rattle.salus_types.specs.Volume.{Shape}
use Rattle.salus_types.specs.declared.records.Record.{Record}
use Rattle.salus_types.specs.declared.records.Base.{Base}
use Rattle.salus_types.specs.declared.records.Held.{Held}
use Rattle.merkle_region.specs.Tree.{IsAmong}
use Rattle.holding_model.specs.Changing.{AddsPart, AddsBase, SwitchesTo, FoldsTo, is_folded, is_open_base, base_after_all, folded, changed}
use Rattle.replica_rules.specs.Views.{View, view_of_base, view_after}
use Rattle.list_lemmas.proofs.Each.{all_both, all_filter, all_then, all_pass, all_zip}
use Rattle.list_lemmas.proofs.Members.{among_all, among_filter, among_filter-in}
use Rattle.list_lemmas.proofs.Tests.{by_bool}
use Rattle.law_prefix.specs.Numbers.{Mem}
use Rattle.law_prefix.specs.Images.{IsPart, reach, folded_place}
use Rattle.law_prefix.specs.World.{Client}
use Rattle.law_prefix.specs.Steps.{above, AddsPart as PartAdded, AddsBase as BaseAdded, Switches, Changes}
use Rattle.kept_model.specs.Images.{part_as, parts_as, open_place, later_bases, later_sessions, image_of}
use Rattle.law_refined.specs.Bringing.{PartFits, StartFits}
use Rattle.law_refined.specs.Standing.{BaseStands, ChainOn, Chain, Opened, HeldStands}
use Rattle.law_refined.proofs.Listed.{mem_among, mem_map, mem_reverse, find_filter, filter_alike, filter_all, filter_none, filter_fewer, above_reverse}
use Rattle.law_refined.proofs.Chains.{GoesOn, goes_parts, counted_up, chain_both, chain_sessions, chain_fits, chain_reach, up_to, above_it, chain_split, folded_same, after_stands}

-- ---- lists

pub single : {A : Type 0} (xs : List A) (x : A) → length xs ≤ 1 → IsAmong x xs → xs ≡ x ∷ []
single [] x one among = absurd among
single (y ∷ []) x one among = ⊎_elim (λ same. ap (λ z. z ∷ []) (sym same)) (λ none. absurd none) among
single (y ∷ z ∷ xs) x one among = absurd (omega arith)

find_off : {A : Type 0} (t : A → Bool) (xs : List A) (y : A) → t y ≡ false → find t (xs ++ y ∷ []) ≡ find t xs
find_off t [] y off = ap (λ b. if b then Some y else None) off
find_off t (x ∷ xs) y off = ap (λ o. if t x then Some x else o) (find_off t xs y off)

filter_off : {A : Type 0} (t : A → Bool) (xs : List A) (y : A) → t y ≡ false → filter t (xs ++ y ∷ []) ≡ filter t xs
filter_off t xs y off = filter-append t xs (y ∷ []) ∙ ap (λ b. filter t xs ++ (if b then y ∷ [] else [])) off ∙ append-nil (filter t xs)

filter_on : {A : Type 0} (t : A → Bool) (xs : List A) (y : A) → t y ≡ true → filter t (xs ++ y ∷ []) ≡ filter t xs ++ y ∷ []
filter_on t xs y on = filter-append t xs (y ∷ []) ∙ ap (λ b. filter t xs ++ (if b then y ∷ [] else [])) on

unequal : (a b : ℕ) → (a ≡ b → ⊥) → (a == b) ≡ false
unequal a b differ = by_bool (a == b) ((a == b) ≡ false) (λ same. absurd (differ (eqb-true a b same))) (λ e. e)

not_low : (n x : ℕ) → not (nat_le x n) ≡ nat_lt n x
not_low n x = by_bool (nat_le x n) (not (nat_le x n) ≡ nat_lt n x)
    (λ low. let under : x ≤ n = leb-true x n low in ap not low ∙ sym (le-ltb n x under))
    (λ high. let over : n < x = leb-false x n high in ap not high ∙ sym (lt-ltb n x over))

-- the sessions of the bases of sessions above one
abbrev sessions_above : ℕ → List Base → List ℕ
sessions_above e bases = map (λ (base : Base). base.rec.header.session) (filter (λ base. nat_lt e base.rec.header.session) bases)

switched_sessions : (s e : ℕ) → s < e → (bases : List Base) → above e (sessions_above s bases) ≡ sessions_above e (filter (λ base. nat_le e base.rec.header.session) bases)
unfolding above
switched_sessions s e up [] = refl
switched_sessions s e up (base ∷ bases) =
    let x : ℕ = base.rec.header.session in
    let rest : above e (sessions_above s bases) ≡ sessions_above e (filter (λ b. nat_le e b.rec.header.session) bases) = switched_sessions s e up bases in
    by_bool (nat_lt e x) (above e (sessions_above s (base ∷ bases)) ≡ sessions_above e (filter (λ b. nat_le e b.rec.header.session) (base ∷ bases)))
    (λ high.
    let over : e < x = ltb-true e x high in
    let low : s < x = omega arith in
    let most : e ≤ x = omega arith in
    ap (λ b. above e (map (λ (k : Base). k.rec.header.session) (if b then base ∷ filter (λ k. nat_lt s k.rec.header.session) bases else filter (λ k. nat_lt s k.rec.header.session) bases))) (lt-ltb s x low)
    ∙ cond-true (nat_lt e x) (x ∷ above e (sessions_above s bases)) (above e (sessions_above s bases)) high ∙ ap (λ l. x ∷ l) rest
    ∙ sym (ap (λ b. sessions_above e (if b then base ∷ filter (λ k. nat_le e k.rec.header.session) bases else filter (λ k. nat_le e k.rec.header.session) bases)) (le-leb e x most)
    ∙ ap (λ b. map (λ (k : Base). k.rec.header.session) (if b then base ∷ filter (λ k. nat_lt e k.rec.header.session) (filter (λ k. nat_le e k.rec.header.session) bases) else filter (λ k. nat_lt e k.rec.header.session) (filter (λ k. nat_le e k.rec.header.session) bases))) high))
    (λ fail.
    let left : above e (sessions_above s (base ∷ bases)) ≡ above e (sessions_above s bases) =
    elim (nat_lt s x) as (λ b. above e (map (λ (k : Base). k.rec.header.session) (if b then base ∷ filter (λ k. nat_lt s k.rec.header.session) bases else filter (λ k. nat_lt s k.rec.header.session) bases)) ≡ above e (sessions_above s bases)) [
      | true ↦ cond-false (nat_lt e x) (x ∷ above e (sessions_above s bases)) (above e (sessions_above s bases)) fail
      | false ↦ refl
    ] in
    let right : sessions_above e (filter (λ b. nat_le e b.rec.header.session) (base ∷ bases)) ≡ sessions_above e (filter (λ b. nat_le e b.rec.header.session) bases) =
    elim (nat_le e x) as (λ b. sessions_above e (if b then base ∷ filter (λ k. nat_le e k.rec.header.session) bases else filter (λ k. nat_le e k.rec.header.session) bases) ≡ sessions_above e (filter (λ k. nat_le e k.rec.header.session) bases)) [
      | true ↦ ap (λ b. map (λ (k : Base). k.rec.header.session) (if b then base ∷ filter (λ k. nat_lt e k.rec.header.session) (filter (λ k. nat_le e k.rec.header.session) bases) else filter (λ k. nat_lt e k.rec.header.session) (filter (λ k. nat_le e k.rec.header.session) bases))) fail
      | false ↦ refl
    ] in
    left ∙ rest ∙ sym right)

module _ (shape : Shape) (g : ℕ) (c : Client) where
  -- ---- the open base

  pub opened_place : (held : Held) (view : View) (o : Opened shape g c held view) → open_place held ≡ o.base.rec.header.seq
  opened_place held view o = ap (λ (m : Option Base). option_map_or (λ (base : Base). base.rec.header.seq) m 0) (find_filter (λ b. is_open_base held b) held.bases o.base [] o.only)

  pub opened_among : (held : Held) (view : View) (o : Opened shape g c held view) → IsAmong o.base held.bases × (is_open_base held o.base ≡ true)
  opened_among held view o = among_filter (λ b. is_open_base held b) o.base held.bases (subst (λ (l : List Base). IsAmong o.base l) (sym o.only) (inl refl))

  pub opened_session : (held : Held) (view : View) (o : Opened shape g c held view) → o.base.rec.header.session ≡ held.session
  opened_session held view o = eqb-true o.base.rec.header.session held.session (opened_among held view o).1

  pub opened_stands : (held : Held) (view : View) → HeldStands shape g c held → (o : Opened shape g c held view) → BaseStands shape g c held.session o.base
  opened_stands held view holds o = among_all (BaseStands shape g c held.session) held.bases o.base (opened_among held view o).0 holds.bases

  pub opened_reach : (held : Held) (view : View) (o : Opened shape g c held view) → reach (open_place held) (parts_as held.parts) ≡ view.number
  opened_reach held view o = ap (λ n. reach n (parts_as held.parts)) (opened_place held view o) ∙ chain_reach shape g c held.session (view_of_base o.base) held.parts view o.chain

  -- ---- a part more

  pub record PartMore (held : Held) (rec : Record) (now : View) (next : Held) : Type 0 where
    pub holds : HeldStands shape g c next
    pub opened : Opened shape g c next now
    pub image : PartAdded c g (image_of held) (image_of next)

  pub part_more : (held : Held) (view : View) (rec : Record) → HeldStands shape g c held → 0 < held.session → Opened shape g c held view → ChainOn shape g c held.session view rec
      → PartMore held rec (view_after shape view rec) (changed shape held (AddsPart rec))
  unfolding changed Chain
  part_more held view rec holds positive o on =
      let going : GoesOn shape g view rec = goes_parts shape g view rec on.goes in
      let next : Opened shape g c (changed shape held (AddsPart rec)) (view_after shape view rec) = record {
        base = o.base;
        only = o.only;
        chain = chain_both shape g c held.session (view_of_base o.base) held.parts (rec ∷ []) view (view_after shape view rec) o.chain (on, refl);
      } in
      record {
        holds = record { bases = holds.bases; few = holds.few; open_is = inr (positive, view_after shape view rec, next) };
        opened = next;
        image = record {
          added = part_as rec;
          is_part = subst (λ s. IsPart (c.lists s) (c.starts s) g (part_as rec)) on.session
              (subst (λ r. IsPart (c.lists rec.header.session) (c.starts rec.header.session) r (part_as rec)) going.region on.fits.is_part);
          next = going.starts ∙ sym (opened_reach held view o);
          same_session = refl;
          same_base = refl;
          more_parts = map-append (λ r. part_as r) held.parts (rec ∷ []);
          same_later = refl;
        };
      }

  -- ---- a base more

  pub record BaseMore (held : Held) (new : Base) (next : Held) : Type 0 where
    pub staged : Mem new.rec.header.session (later_sessions next)
    pub holds : HeldStands shape g c next
    pub opened : (view : View) → Opened shape g c held view → Opened shape g c next view
    pub place : open_place next ≡ open_place held
    pub image : BaseAdded c (image_of held) (image_of next)

  abbrev OfSession : ℕ → Base → Bool
  OfSession e base = base.rec.header.session == e

  pub base_more : (held : Held) (new : Base) → HeldStands shape g c held → BaseStands shape g c held.session new → held.session < new.rec.header.session
      → filter (λ b. OfSession new.rec.header.session b) held.bases ≡ [] → StartFits c new.rec → BaseMore held new (changed shape held (AddsBase new))
  unfolding changed
  base_more held new holds stands up none start =
      let e : ℕ = new.rec.header.session in
      let off : (e == held.session) ≡ false = unequal e held.session (λ same. absurd (omega arith)) in
      let opened : (view : View) → Opened shape g c held view → Opened shape g c (changed shape held (AddsBase new)) view =
      λ view o. record { base = o.base; only = filter_off (λ b. is_open_base held b) held.bases new off ∙ o.only; chain = o.chain } in
      let later : later_sessions (changed shape held (AddsBase new)) ≡ e ∷ later_sessions held =
      ap (λ (l : List Base). reverse (map (λ (b : Base). b.rec.header.session) l)) (filter_on (λ b. nat_lt held.session b.rec.header.session) held.bases new (lt-ltb held.session e up))
      ∙ ap (λ (l : List ℕ). reverse l) (map-append (λ (b : Base). b.rec.header.session) (later_bases held) (new ∷ []))
      ∙ reverse-append (map (λ (b : Base). b.rec.header.session) (later_bases held)) (e ∷ []) in
      record {
        staged = subst (λ (l : List ℕ). Mem e l) (sym later) (inl refl);
        holds = record {
          bases = all_both (BaseStands shape g c held.session) held.bases (new ∷ []) holds.bases (stands, tt);
          few = λ f. by_bool (e == f) (length (filter (λ b. OfSession f b) (held.bases ++ new ∷ [])) ≤ 1)
              (λ same.
              let gone : filter (λ b. OfSession f b) held.bases ≡ [] = subst (λ x. filter (λ b. OfSession x b) held.bases ≡ []) (eqb-true e f same) none in
              let one : length (filter (λ b. OfSession f b) (held.bases ++ new ∷ [])) ≡ 1 = ap (λ (l : List Base). length l) (filter_on (λ b. OfSession f b) held.bases new same ∙ ap (λ (l : List Base). l ++ new ∷ []) gone) in
              omega arith)
              (λ differ. subst (λ (l : List Base). length l ≤ 1) (sym (filter_off (λ b. OfSession f b) held.bases new differ)) (holds.few f));
          open_is = ⊎_elim (λ (closed : (held.session ≡ 0) × (held.parts ≡ [])). inl closed)
              (λ (open_view : (0 < held.session) × (view : View) × Opened shape g c held view). inr (open_view.0, open_view.1, opened open_view.1 open_view.2)) holds.open_is;
        };
        opened = opened;
        place = ap (λ (m : Option Base). option_map_or (λ (base : Base). base.rec.header.seq) m 0) (find_off (λ b. is_open_base held b) held.bases new off);
        image = record {
          added = e;
          is_known = start.known;
          same_session = refl;
          same_base = ap (λ (m : Option Base). option_map_or (λ (base : Base). base.rec.header.seq) m 0) (find_off (λ b. is_open_base held b) held.bases new off);
          same_parts = refl;
          more_later = later;
        };
      }

  -- ---- a switch

  pub record SwitchedTo (held : Held) (e : ℕ) (base : Base) (next : Held) : Type 0 where
    pub holds : HeldStands shape g c next
    pub opened : Opened shape g c next (view_of_base base)
    pub positive : 0 < e
    pub image : Mem e c.switches → Switches c (image_of held) (image_of next)

  part_past : (held : Held) (e : ℕ) → held.session < e → HeldStands shape g c held → filter (λ rec. nat_le e rec.header.session) held.parts ≡ []
  part_past held e up holds =
      ⊎_elim (λ (closed : (held.session ≡ 0) × (held.parts ≡ [])). ap (λ (l : List Record). filter (λ rec. nat_le e rec.header.session) l) closed.1)
      (λ (open_view : (0 < held.session) × (view : View) × Opened shape g c held view).
      let o : Opened shape g c held open_view.1 = open_view.2 in
      filter_none (λ rec. nat_le e rec.header.session) held.parts
      (all_then (λ rec. rec.header.session ≡ held.session) (λ rec. nat_le e rec.header.session ≡ false) (λ rec same. let under : rec.header.session < e = omega arith in lt-leb e rec.header.session under)
      held.parts (chain_sessions shape g c held.session (view_of_base o.base) held.parts open_view.1 o.chain))) holds.open_is

  -- a base of a later session is one with which it starts
  pub later_start : (held : Held) (base : Base) → BaseStands shape g c held.session base → held.session < base.rec.header.session → StartFits c base.rec
  later_start held base stands up =
      ⊎_elim (λ (start : StartFits c base.rec). start) (λ (folded_one : (base.rec.header.session ≡ held.session) × PartFits c base.rec). let same : base.rec.header.session ≡ held.session = folded_one.0 in absurd (omega arith)) stands.fits

  pub switch_to : (held : Held) (e : ℕ) (base : Base) → HeldStands shape g c held → held.session < e → IsAmong base held.bases → base.rec.header.session ≡ e
      → SwitchedTo held e base (changed shape held (SwitchesTo e))
  unfolding changed Chain
  switch_to held e base holds up among same =
      let left : List Base = filter (λ b. nat_le e b.rec.header.session) held.bases in
      let stands : BaseStands shape g c held.session base = among_all (BaseStands shape g c held.session) held.bases base among holds.bases in
      let over : held.session < base.rec.header.session = omega arith in
      let start : StartFits c base.rec = later_start held base stands over in
      let most : e ≤ base.rec.header.session = omega arith in
      let in_left : IsAmong base left = among_filter-in (λ b. nat_le e b.rec.header.session) held.bases base among (le-leb e base.rec.header.session most) in
      let only : filter (λ b. OfSession e b) left ≡ base ∷ [] =
      single (filter (λ b. OfSession e b) left) base
      (le_trans (filter_fewer (λ b. OfSession e b) (λ b. nat_le e b.rec.header.session) held.bases) (holds.few e))
      (among_filter-in (λ b. OfSession e b) left base in_left (eq-eqb base.rec.header.session e same)) in
      let none : filter (λ rec. nat_le e rec.header.session) held.parts ≡ [] = part_past held e up holds in
      let next : Held = changed shape held (SwitchesTo e) in
      let opened : Opened shape g c next (view_of_base base) = record {
        base = base;
        only = only;
        chain = subst (λ (l : List Record). Chain shape g c e (view_of_base base) l (view_of_base base)) (sym none) refl;
      } in
      record {
        holds = record {
          bases = all_then (λ b. BaseStands shape g c held.session b × (nat_le e b.rec.header.session ≡ true)) (BaseStands shape g c e)
              (λ b both.
              let its : BaseStands shape g c held.session b = both.0 in
              let high : e ≤ b.rec.header.session = leb-true e b.rec.header.session both.1 in
              let later : held.session < b.rec.header.session = omega arith in
              record { not_past = high; stands = its.stands; root = its.root; inside = its.inside; fits = inl (later_start held b its later) }) left
              (all_zip (BaseStands shape g c held.session) (λ b. nat_le e b.rec.header.session ≡ true) left (all_filter (BaseStands shape g c held.session) (λ b. nat_le e b.rec.header.session) held.bases holds.bases)
              (all_pass (λ b. nat_le e b.rec.header.session) held.bases));
          few = λ f. le_trans (filter_fewer (λ b. OfSession f b) (λ b. nat_le e b.rec.header.session) held.bases) (holds.few f);
          open_is = inr (omega arith, view_of_base base, opened);
        };
        opened = opened;
        positive = omega arith;
        image = λ told. record {
          up = up;
          staged = mem_reverse e (map (λ (b : Base). b.rec.header.session) (later_bases held))
              (subst (λ x. Mem x (map (λ (b : Base). b.rec.header.session) (later_bases held))) same
              (mem_map (λ (b : Base). b.rec.header.session) base (later_bases held) (mem_among base (later_bases held)
              (among_filter-in (λ b. nat_lt held.session b.rec.header.session) held.bases base among (lt-ltb held.session base.rec.header.session over)))));
          told = told;
          base = opened_place next (view_of_base base) opened ∙ start.start ∙ ap (λ x. c.starts x) same;
          parts = ap (λ (l : List Record). parts_as l) none;
          later = sym (above_reverse e (sessions_above held.session held.bases) ∙ ap (λ (l : List ℕ). reverse l) (switched_sessions held.session e up held.bases));
        };
      }

  -- ---- a fold

  pub record FoldedTo (held : Held) (view : View) (n : ℕ) (next : Held) : Type 0 where
    pub session : next.session ≡ held.session
    pub holds : HeldStands shape g c next
    pub opened : Opened shape g c next view
    pub up : open_place held ≤ open_place next
    pub parts : next.parts ≡ filter (λ rec. nat_lt n rec.header.seq) held.parts
    pub image : (newest : Record) → IsAmong newest held.parts → n + 16 ≤ newest.header.seq → Changes c g (image_of held) (image_of next)

  module _ (held : Held) (view : View) (n : ℕ) (holds : HeldStands shape g c held) (positive : 0 < held.session) (o : Opened shape g c held view) where
    abbrev low_parts : List Record
    low_parts = up_to shape g c held.session n held.parts

    abbrev high_parts : List Record
    high_parts = above_it shape g c held.session n held.parts

    sessions : AllByRecursion (λ rec. rec.header.session ≡ held.session) held.parts
    sessions = chain_sessions shape g c held.session (view_of_base o.base) held.parts view o.chain

    gone_same : filter (λ rec. is_folded held n rec) held.parts ≡ low_parts
    gone_same = filter_alike (λ rec. is_folded held n rec) (λ rec. nat_le rec.header.seq n) held.parts
        (all_then (λ rec. rec.header.session ≡ held.session) (λ rec. is_folded held n rec ≡ nat_le rec.header.seq n) (λ rec same. ap (λ b. b && nat_le rec.header.seq n) (eq-eqb rec.header.session held.session same)) held.parts sessions)

    left_same : filter (λ rec. not (is_folded held n rec)) held.parts ≡ high_parts
    left_same = filter_alike (λ rec. not (is_folded held n rec)) (λ rec. nat_lt n rec.header.seq) held.parts
        (all_then (λ rec. rec.header.session ≡ held.session) (λ rec. not (is_folded held n rec) ≡ nat_lt n rec.header.seq)
        (λ rec same. ap (λ b. not (b && nat_le rec.header.seq n)) (eq-eqb rec.header.session held.session same) ∙ not_low n rec.header.seq) held.parts sessions)

    abbrev next_base : Base
    next_base = base_after_all shape o.base low_parts

    none_gone : low_parts ≡ [] → high_parts ≡ held.parts
    none_gone none = filter_all (λ rec. nat_lt n rec.header.seq) held.parts (each held.parts none) where
      each : (parts : List Record) → filter (λ rec. nat_le rec.header.seq n) parts ≡ [] → AllByRecursion (λ rec. nat_lt n rec.header.seq ≡ true) parts
      each [] none = tt
      each (rec ∷ parts) none =
          by_bool (nat_le rec.header.seq n) (AllByRecursion (λ r. nat_lt n r.header.seq ≡ true) (rec ∷ parts))
          (λ low.
          let same : rec ∷ filter (λ r. nat_le r.header.seq n) parts ≡ [] = sym (ap (λ b. if b then rec ∷ filter (λ r. nat_le r.header.seq n) parts else filter (λ r. nat_le r.header.seq n) parts) low) ∙ none in
          let long : length (rec ∷ filter (λ r. nat_le r.header.seq n) parts) ≡ 0 = ap (λ (l : List Record). length l) same in
          absurd (omega arith))
          (λ high.
          let over : n < rec.header.seq = leb-false rec.header.seq n high in
          let rest : filter (λ r. nat_le r.header.seq n) parts ≡ [] = sym (ap (λ b. if b then rec ∷ filter (λ r. nat_le r.header.seq n) parts else filter (λ r. nat_le r.header.seq n) parts) high) ∙ none in
          (lt-ltb n rec.header.seq over, each parts rest))

    fold_none : low_parts ≡ [] → FoldedTo held view n held
    fold_none none = record { session = refl; holds = holds; opened = o; up = omega arith; parts = sym (none_gone none); image = λ newest among room. inl refl }

    fold_some : (first : Record) (rest : List Record) → FoldedTo held view n (record { session = held.session; bases = map (λ base. base_after_all shape base (filter (λ rec. is_folded held n rec) held.parts)) (filter (λ base. is_open_base held base) held.bases) ++ later_bases held; parts = filter (λ rec. not (is_folded held n rec)) held.parts })
    fold_some first rest =
        let e : ℕ = held.session in
        let now : Held = record { session = held.session; bases = map (λ base. base_after_all shape base (filter (λ rec. is_folded held n rec) held.parts)) (filter (λ base. is_open_base held base) held.bases) ++ later_bases held; parts = filter (λ rec. not (is_folded held n rec)) held.parts } in
        let same_bases : now.bases ≡ next_base ∷ later_bases held =
        ap (λ (l : List Base). map (λ base. base_after_all shape base (filter (λ rec. is_folded held n rec) held.parts)) l ++ later_bases held) o.only
        ∙ ap (λ (l : List Record). base_after_all shape o.base l ∷ later_bases held) gone_same in
        let both = chain_split shape g c e n o.base held.parts view o.chain in
        let after = after_stands shape g c e o.base low_parts (view_of_base next_base) (opened_session held view o) (opened_stands held view holds o) both.0 in
        let is_open : (next_base.rec.header.session == e) ≡ true = eq-eqb next_base.rec.header.session e after.1 in
        let not_later : nat_lt e next_base.rec.header.session ≡ false = le-ltb e next_base.rec.header.session (let s : next_base.rec.header.session ≡ e = after.1 in omega arith) in
        let later_up : AllByRecursion (λ b. nat_lt e b.rec.header.session ≡ true) (later_bases held) = all_pass (λ b. nat_lt e b.rec.header.session) held.bases in
        let none_open : filter (λ b. OfSession e b) (later_bases held) ≡ [] =
        filter_none (λ b. OfSession e b) (later_bases held) (all_then (λ b. nat_lt e b.rec.header.session ≡ true) (λ b. OfSession e b ≡ false)
        (λ b high. unequal b.rec.header.session e (λ same. let over : e < b.rec.header.session = ltb-true e b.rec.header.session high in absurd (omega arith))) (later_bases held) later_up) in
        let only : filter (λ b. OfSession e b) now.bases ≡ next_base ∷ [] =
        ap (λ (l : List Base). filter (λ b. OfSession e b) l) same_bases ∙ ap (λ b. if b then next_base ∷ filter (λ k. OfSession e k) (later_bases held) else filter (λ k. OfSession e k) (later_bases held)) is_open
        ∙ ap (λ (l : List Base). next_base ∷ l) none_open in
        let opened : Opened shape g c now view = record { base = next_base; only = only; chain = subst (λ (l : List Record). Chain shape g c e (view_of_base next_base) l view) (sym left_same) both.1 } in
        let place : open_place now ≡ next_base.rec.header.seq = opened_place now view opened in
        let before : open_place held ≡ o.base.rec.header.seq = opened_place held view o in
        let up : o.base.rec.header.seq ≤ next_base.rec.header.seq = after.2 in
        let fits : AllByRecursion (PartFits c) held.parts = chain_fits shape g c e (view_of_base o.base) held.parts view o.chain in
        let images = folded_same shape g c e n o.base held.parts fits in
        record {
          session = refl;
          holds = record {
            bases = subst (λ (l : List Base). AllByRecursion (BaseStands shape g c e) l) (sym same_bases)
                (after.0, all_filter (BaseStands shape g c e) (λ b. nat_lt e b.rec.header.session) held.bases holds.bases);
            few = λ f. subst (λ (l : List Base). length (filter (λ b. OfSession f b) l) ≤ 1) (sym same_bases)
                (by_bool (next_base.rec.header.session == f) (length (filter (λ b. OfSession f b) (next_base ∷ later_bases held)) ≤ 1)
                (λ yes_f.
                let s : e ≡ f = sym after.1 ∙ eqb-true next_base.rec.header.session f yes_f in
                let none : filter (λ b. OfSession f b) (later_bases held) ≡ [] = subst (λ x. filter (λ b. OfSession x b) (later_bases held) ≡ []) s none_open in
                let one : length (filter (λ b. OfSession f b) (next_base ∷ later_bases held)) ≡ 1 =
                ap (λ b. length (if b then next_base ∷ filter (λ k. OfSession f k) (later_bases held) else filter (λ k. OfSession f k) (later_bases held))) yes_f ∙ ap (λ (l : List Base). length (next_base ∷ l)) none in
                omega arith)
                (λ no_f. subst (λ b. length (if b then next_base ∷ filter (λ k. OfSession f k) (later_bases held) else filter (λ k. OfSession f k) (later_bases held)) ≤ 1) (sym no_f)
                (le_trans (filter_fewer (λ b. OfSession f b) (λ b. nat_lt e b.rec.header.session) held.bases) (holds.few f))));
            open_is = inr (positive, view, opened);
          };
          opened = opened;
          up = omega arith;
          parts = left_same;
          image = λ newest among room. inr (inr (inr (inr (record {
            to = n;
            newest = part_as newest;
            newest_held = mem_map (λ r. part_as r) newest held.parts (mem_among newest held.parts among);
            room = let counted : suc (newest.header.seq - 1) ≡ newest.header.seq = counted_up newest.header.seq (among_all (PartFits c) held.parts newest among fits).counted in omega arith;
            same_session = refl;
            base = place ∙ sym images.0 ∙ ap (λ x. folded_place n x (parts_as held.parts)) (sym before);
            parts = ap (λ (l : List Record). parts_as l) left_same ∙ sym images.1;
            same_later = ap (λ (l : List Base). reverse (map (λ (b : Base). b.rec.header.session) (filter (λ b. nat_lt e b.rec.header.session) l))) same_bases
                ∙ ap (λ b. reverse (map (λ (k : Base). k.rec.header.session) (if b then next_base ∷ filter (λ k. nat_lt e k.rec.header.session) (later_bases held) else filter (λ k. nat_lt e k.rec.header.session) (later_bases held)))) not_later
                ∙ ap (λ (l : List Base). reverse (map (λ (b : Base). b.rec.header.session) l)) (filter_all (λ b. nat_lt e b.rec.header.session) (later_bases held) later_up);
          }))));
        }

    fold_any : (gone : List Record) → filter (λ rec. is_folded held n rec) held.parts ≡ gone → FoldedTo held view n (folded shape held n gone)
    fold_any [] none = fold_none (sym gone_same ∙ none)
    fold_any (first ∷ rest) some = fold_some first rest

    pub fold_to : FoldedTo held view n (changed shape held (FoldsTo n))
    unfolding changed
    fold_to = fold_any (filter (λ rec. is_folded held n rec) held.parts) refl
