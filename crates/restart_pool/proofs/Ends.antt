-- The ends of the chains of a session in a region, and how chains go on with given parts.
use Rattle.std.proofs.Common.{◌≡◌, ℕ, suc, ◌+◌, ◌<◌, ◌≤◌, ◌∙◌, Bool, true, false, ◌==◌, ◌&&◌, nat_lt, cond, List, [], ◌∷◌, ◌++◌, length, drop, get_or, MatchOption, Option, None, Some, bytes_eq, refl, ap, ap₂, sym, subst, arith}
use Rattle.std.specs.Prelude.{filter, filter_map, slice_get, option_and_then, option_map}
use Rattle.std.proofs.lemmas.Bool.{eqb-true, eq-eqb, false≢true, and_parts, and_from, cond-true, cond-false}
use Rattle.std.proofs.lemmas.Option.{none-some, same_Some}
use Rattle.std.proofs.lemmas.List.{at_drop_more, at_drop_all}
use Rattle.salus_types.specs.Volume.{Shape}
use Rattle.salus_types.specs.declared.records.Record.{Record}
use Rattle.salus_types.specs.declared.records.Base.{Base}
use Rattle.merkle_region.specs.Tree.{root_of, IsAmong}
use Rattle.holding_model.specs.Fitting.{has_content, blocks_after}
use Rattle.volume_model.specs.Recovering.{End, base_end, is_link, is_of}
use Rattle.restart_pool.specs.Following.{Chains, ends, end_after, follow, after_found, along, whole_at, starts_at, NoneStarts, NoneFollows, LeadsTo, IsEndAt, Begins, NotBegun, later_of}
use Rattle.restart_pool.specs.declared.replay.Whole.{Whole}
use Rattle.restart_pool.specs.declared.chain.Way.{Way}
use Rattle.restart_pool.proofs.Chains.{HowEnds, AtBase, ByLink, from_base, further, how_ends, one_round_more, in_all}
use Rattle.list_lemmas.proofs.Members.{among_filter, among_filter-in}
use Rattle.list_lemmas.proofs.Tests.{and_four}

one_le : {A : Type 0} (t : Bool) (x : A) (ys xs : List A) → length ys ≤ length xs → length (cond t (x ∷ ys) ys) ≤ suc (length xs)
one_le true x ys xs h = omega arith
one_le false x ys xs h = omega arith

length-filter : {A : Type 0} (test : A → Bool) (xs : List A) → length (filter test xs) ≤ length xs
length-filter test [] = omega arith
length-filter test (x ∷ xs) =
    let here : length (cond (test x) (x ∷ filter test xs) (filter test xs)) ≤ suc (length xs) = one_le (test x) x (filter test xs) xs (length-filter test xs) in
    omega (arith, here)

module _ (c : Chains) where
  abbrev of_base : Base → Bool
  of_base base = is_of c.session c.region base.rec.header

  abbrev of_part : Record → Bool
  of_part rec = is_of c.session c.region rec.header

  pub base-ends : (base : Base) → IsAmong base c.bases → is_of c.session c.region base.rec.header ≡ true → IsAmong (base_end base) (ends c)
  unfolding ends
  base-ends base m is = from_base c.shape (filter of_base c.bases) (filter of_part c.parts) (length c.parts) base (among_filter-in of_base c.bases base m is)

  pub link-ends : (end : End) (rec : Record) → IsAmong end (ends c) → IsAmong rec c.parts → is_of c.session c.region rec.header ≡ true → is_link c.shape end rec ≡ true
      → IsAmong (end_after c.shape end rec) (ends c)
  unfolding ends
  link-ends end rec m p is links =
      in_all c.shape (filter of_base c.bases) (filter of_part c.parts) (suc (length c.parts)) (length c.parts) (end_after c.shape end rec) (length-filter of_part c.parts)
      (further c.shape (filter of_base c.bases) (filter of_part c.parts) (length c.parts) end rec m (among_filter-in of_part c.parts rec p is) links)

  pub data WhereFrom (end : End) : Type 0 where
    Base-of : (base : Base) → IsAmong base c.bases → is_of c.session c.region base.rec.header ≡ true → end ≡ base_end base → WhereFrom end
    Link-of : (before : End) (rec : Record) → IsAmong before (ends c) → IsAmong rec c.parts → is_of c.session c.region rec.header ≡ true → is_link c.shape before rec ≡ true
        → end ≡ end_after c.shape before rec → WhereFrom end

  from_how : (end : End) → HowEnds c.shape (filter of_base c.bases) (filter of_part c.parts) (length c.parts) end → WhereFrom end
  unfolding ends
  from_how end (AtBase base m is) = let good = among_filter of_base base c.bases m in Base-of base good.0 good.1 is
  from_how end (ByLink before rec m p links is) = let good = among_filter of_part rec c.parts p in Link-of before rec m good.0 good.1 links is

  pub where_from : (end : End) → IsAmong end (ends c) → WhereFrom end
  unfolding ends
  where_from end m =
      from_how end (how_ends c.shape (filter of_base c.bases) (filter of_part c.parts) (length c.parts) end
      (one_round_more c.shape (filter of_base c.bases) (filter of_part c.parts) (length c.parts) end m))

-- ---- going on with parts

pub follow-link : (shape : Shape) (end : End) (rec : Record) (later : List Record) → is_link shape end rec ≡ true → follow shape end (rec ∷ later) ≡ follow shape (end_after shape end rec) later
unfolding follow
follow-link shape end rec later links = cond-true (is_link shape end rec) (follow shape (end_after shape end rec) later) None links

pub follow-other : (shape : Shape) (end : End) (rec : Record) (later : List Record) → is_link shape end rec ≡ false → follow shape end (rec ∷ later) ≡ None
unfolding follow
follow-other shape end rec later other = cond-false (is_link shape end rec) (follow shape (end_after shape end rec) later) None other

after_cond : (shape : Shape) (end : End) (rec : Record) (later : List Record) (t : Bool)
    → cond t (follow shape (end_after shape end rec) later) None ≡ option_and_then (λ e. follow shape e later) (cond t (Some (end_after shape end rec)) None)
after_cond shape end rec later true = refl
after_cond shape end rec later false = refl

on_found : (shape : Shape) (end : End) (parts : List Record) (places : List ℕ) (found : Option Record) (all : List Record)
    → all ≡ along parts places → follow shape end (filter_map (λ (o : Option Record). o) (found ∷ []) ++ all) ≡ option_and_then (λ e. follow shape e all) (after_found shape end found)
unfolding follow
on_found shape end parts places None all is = refl
on_found shape end parts places (Some rec) all is = after_cond shape end rec all (is_link shape end rec)

found_first : (shape : Shape) (end : End) (parts : List Record) (i : ℕ) (places : List ℕ) (found : Option Record) → slice_get parts i ≡ found
    → along parts (i ∷ places) ≡ filter_map (λ (o : Option Record). o) (found ∷ []) ++ along parts places
found_first shape end parts i places None is = rw is refl
found_first shape end parts i places (Some rec) is = rw is refl

-- the first of the places, and then the others
pub follow-along : (shape : Shape) (end : End) (parts : List Record) (i : ℕ) (places : List ℕ)
    → follow shape end (along parts (i ∷ places)) ≡ option_and_then (λ e. follow shape e (along parts places)) (after_found shape end (slice_get parts i))
follow-along shape end parts i places =
    ap (follow shape end) (found_first shape end parts i places (slice_get parts i) refl) ∙ on_found shape end parts places (slice_get parts i) (along parts places) refl

pub link-from : (shape : Shape) (end : End) (rec : Record) → is_link shape end rec ≡ true → rec.header.previous ≡ end.at
link-from shape end rec links =
    let says = and_four (rec.header.previous == end.at) (nat_lt rec.header.previous rec.header.seq) (has_content rec.writes rec.run)
    (bytes_eq (root_of shape.height (blocks_after shape end.blocks rec)) rec.header.root) links in
    eqb-true rec.header.previous end.at says.0

module _ (c : Chains) where
  leads_by : (x at : ℕ) (rec : Record) (later : List Record) → LeadsTo c x at later → IsAmong rec c.parts → is_of c.session c.region rec.header ≡ true → rec.header.seq ≡ at
      → (end last : End) (t : Bool) → is_link c.shape end rec ≡ t → IsAmong end (ends c) → follow c.shape end (rec ∷ later) ≡ Some last → IsAmong last (ends c) × (last.at ≡ x)
  leads_by x at rec later leads p is here end last true links m e =
      leads (end_after c.shape end rec) last (link-ends c end rec m p is links) here (sym (follow-link c.shape end rec later links) ∙ e)
  leads_by x at rec later leads p is here end last false other m e = absurd (none-some last (sym (follow-other c.shape end rec later other) ∙ e))

  -- one part further down
  pub leads-on : (x at : ℕ) (rec : Record) (later : List Record) → LeadsTo c x at later → IsAmong rec c.parts → is_of c.session c.region rec.header ≡ true → rec.header.seq ≡ at
      → LeadsTo c x rec.header.previous (rec ∷ later)
  leads-on x at rec later leads p is here = λ end last m from e. leads_by x at rec later leads p is here end last (is_link c.shape end rec) refl m e

  -- a chain that ends at this number begins there with a base, or comes from a part with this number
  none_by : (at : ℕ) (later : List Record) → NoneStarts c at later
      → ((rec : Record) → IsAmong rec c.parts → is_of c.session c.region rec.header ≡ true → rec.header.seq ≡ at → NoneFollows c rec.header.previous (rec ∷ later))
      → (end : End) → end.at ≡ at → WhereFrom c end → follow c.shape end later ≡ None
  none_by at later starts links end here (Base-of base m is e) =
      let at_base : base.rec.header.seq ≡ at = sym (ap (λ (w : End). w.at) e) ∙ here in
      subst (λ (w : End). follow c.shape w later ≡ None) (sym e) (starts base m (and_from (is_of c.session c.region base.rec.header) (base.rec.header.seq == at) is (eq-eqb base.rec.header.seq at at_base)))
  none_by at later starts links end here (Link-of before rec m p is link e) =
      let at_rec : rec.header.seq ≡ at = sym (ap (λ (w : End). w.at) e) ∙ here in
      let none = links rec p is at_rec before m (sym (link-from c.shape before rec link)) in
      subst (λ (w : End). follow c.shape w later ≡ None) (sym e) (sym (follow-link c.shape before rec later link) ∙ none)

  pub none-follows : (at : ℕ) (later : List Record) → NoneStarts c at later
      → ((rec : Record) → IsAmong rec c.parts → is_of c.session c.region rec.header ≡ true → rec.header.seq ≡ at → NoneFollows c rec.header.previous (rec ∷ later))
      → NoneFollows c at later
  none-follows at later starts links = λ end m here. none_by at later starts links end here (where_from c end m)

  -- a part that can't be a link
  pub no-link : (rec : Record) (later : List Record) (at : ℕ) → (nat_lt rec.header.previous rec.header.seq && has_content rec.writes rec.run) ≡ false → NoneFollows c at (rec ∷ later)
  no-link rec later at other = λ end m here.
      follow-other c.shape end rec later (no_four (rec.header.previous == end.at) (nat_lt rec.header.previous rec.header.seq) (has_content rec.writes rec.run)
      (bytes_eq (root_of c.shape.height (blocks_after c.shape end.blocks rec)) rec.header.root) other) where
        no_four : (a b d e : Bool) → (b && d) ≡ false → (a && b && d && e) ≡ false
        no_four true true true e h = absurd (false≢true (sym h))
        no_four true true false e h = refl
        no_four true false d e h = refl
        no_four false b d e h = refl

  -- a base that begins a way makes a chain that ends where the way leads
  pub begun : (x : ℕ) (way : Way) (whole : Whole) → LeadsTo c x way.at (later_of c way) → Begins c way whole → IsEndAt c x whole
  begun x way whole leads b =
      let parts = and_parts (is_of c.session c.region b.base.rec.header) (b.base.rec.header.seq == way.at) b.starts in
      let last = leads (base_end b.base) b.end (base-ends c b.base b.among parts.0) (eqb-true b.base.rec.header.seq way.at parts.1) b.follows in
      record { end = b.end; among = last.0; at = last.1; is = b.is }

-- ---- a loop over places

module _ (shape : Shape) (end : End) (parts : List Record) (later : List ℕ) (i : ℕ) (lt : i < length later)
    (start : Option End) (so_far : follow shape end (along parts (drop i later)) ≡ start) where
  abbrev place : ℕ
  place = get_or later i 0

  from_here : start ≡ option_and_then (λ e. follow shape e (along parts (drop (i + 1) later))) (after_found shape end (slice_get parts place))
  from_here =
      sym so_far ∙ (at_drop_more (λ places. follow shape end (along parts places)) later i 0 lt ∙ follow-along shape end parts place (drop (i + 1) later))

  pub replay-on : (next : End) → after_found shape end (slice_get parts (get_or later i 0)) ≡ Some next → follow shape next (along parts (drop (i + 1) later)) ≡ start
  replay-on next found = sym (from_here ∙ ap (λ found. option_and_then (λ e. follow shape e (along parts (drop (i + 1) later))) found) found)

  pub replay-stop : after_found shape end (slice_get parts (get_or later i 0)) ≡ None → start ≡ None
  replay-stop none = from_here ∙ ap (λ found. option_and_then (λ e. follow shape e (along parts (drop (i + 1) later))) found) none

pub replay-done : (shape : Shape) (end : End) (parts : List Record) (later : List ℕ) (i : ℕ) → length later ≤ i → (start : Option End)
    → follow shape end (along parts (drop i later)) ≡ start → start ≡ Some end
unfolding follow
replay-done shape end parts later i le start so_far = sym so_far ∙ at_drop_all (λ places. follow shape end (along parts places)) later i le

-- the base alone, whose record names its root
pub whole-alone : (shape : Shape) (base : Base) (parts : List Record) (later : List ℕ) (whole : Whole) → length later ≡ 0 → root_of shape.height base.blocks ≡ base.rec.header.root
    → whole.root ≡ base.rec.header.root → whole.blocks ≡ base.blocks → Some whole ≡ option_map (whole_at shape) (follow shape (base_end base) (along parts later))
unfolding follow
whole-alone shape base parts [] whole none rooted root blocks = ap Some (ap₂ (λ r bs. record { root = r; blocks = bs }) (root ∙ sym rooted) blocks)
whole-alone shape base parts (i ∷ later) whole none rooted root blocks = absurd (omega (arith, none))

-- what a replay says of a base and a way
module _ (c : Chains) (way : Way) (base : Base) (among : IsAmong base c.bases) (starts : starts_at c way.at base ≡ true) where
  found_by : (found : Option Whole) (end : Option End) → follow c.shape (base_end base) (later_of c way) ≡ end → found ≡ option_map (whole_at c.shape) end
      → MatchOption found (NotBegun c way base) (Begins c way)
  found_by None None follows is = λ _. follows
  found_by None (Some end) follows is = absurd (none-some (whole_at c.shape end) is)
  found_by (Some whole) None follows is = absurd (none-some whole (sym is))
  found_by (Some whole) (Some end) follows is =
      record { base = base; end = end; among = among; starts = starts; follows = follows; is = same_Some whole (whole_at c.shape end) is }

  pub begun-or-not : (found : Option Whole) → found ≡ option_map (whole_at c.shape) (follow c.shape (base_end base) (later_of c way))
      → MatchOption found (NotBegun c way base) (Begins c way)
  begun-or-not found is = found_by found (follow c.shape (base_end base) (later_of c way)) refl is
