-- What is recovered from tagged records: the choice is a header of a session that is known, and its blocks are the contents then.
use Rattle.std.proofs.Common.{◌≡◌, ◌⊎◌, ℕ, ◌<◌, ◌≤◌, ◌∙◌, Bool, true, false, ◌==◌, ◌&&◌, List, [], ◌∷◌, length, map, cond, Option, None, Some, is_some, inl, inr, refl, ap, sym, subst, arith}
use Rattle.std.specs.Prelude.{filter, fold, slice_index}
use Rattle.std.proofs.lemmas.Bool.{and_parts, eqb-true, false≢true}
use Rattle.std.proofs.lemmas.Option.{none-some, same_Some}
use Rattle.salus_types.specs.Volume.{Shape, regions, region_blocks}
use Rattle.salus_types.specs.declared.records.Header.{Header}
use Rattle.salus_types.specs.declared.records.Record.{Record}
use Rattle.salus_types.specs.declared.records.Base.{Base}
use Rattle.merkle_region.specs.Tree.{root_of, tree_strings, IsAmong, NoTwoCollide}
use Rattle.volume_model.specs.Contents.{blocks_in, all_regions}
use Rattle.volume_model.specs.Parts.{Session, contents_after, number_of}
use Rattle.salus_model.specs.Judge.{Judge, known_at}
use Rattle.volume_model.specs.Recovering.{Pool, End, is_of, ends_of, blocks_up_to, picks, choices_of, has_top, recovered, is_recoverable, is_above, better_of, choice_of}
use Rattle.salus_model.specs.Forgery.{IsTagged}
use Rattle.list_lemmas.proofs.Members.{among_filter, among_map, among_flat_map, find_among, among_range}
use Rattle.law_lemmas.proofs.Settled.{EachKnown}
use Rattle.law_lemmas.proofs.Numbered.{IsSized, numbered}
use Rattle.law_lemmas.proofs.Owned.{IsTold, told, own_of, known-session}
use Rattle.law_history.proofs.Chained.{IsRightEnd, right_ends}

-- ---- picks

-- where each list has one value only, each pick is the list of those values
picks_same : {A : Type 0} (F : ℕ → List A) (G : ℕ → A) (gs : List ℕ) (pick : List A)
    → ((g : ℕ) → IsAmong g gs → (x : A) → IsAmong x (F g) → x ≡ G g) → IsAmong pick (picks (map F gs)) → pick ≡ map G gs
unfolding picks
picks_same F G [] pick same (inl e) = e
picks_same F G [] pick same (inr m) = absurd m
picks_same F G (g ∷ gs) pick same m =
    let from = among_flat_map (λ x. map (λ rest. x ∷ rest) (picks (map F gs))) pick (F g) m in
    let tail = among_map (λ rest. from.0 ∷ rest) pick (picks (map F gs)) from.2 in
    tail.2
    ∙ (ap (λ x. x ∷ tail.0) (same g (inl refl) from.0 from.1)
    ∙ ap (λ rest. G g ∷ rest) (picks_same F G gs tail.0 (λ i n x p. same i (inr n) x p) tail.1))

-- ---- the choice

module _ (shape : Shape) (pool : Pool) where
  -- a header of the list that is recoverable, or what was best before
  abbrev IsChosen : Option Header → List Header → Header → Type 0
  IsChosen best hs h = (best ≡ Some h) ⊎ (IsAmong h hs × (is_recoverable shape pool h ≡ true))

  chosen_step : (x : Header) (hs : List Header) (best : Option Header) (h : Header) (t : Bool) → (is_above x best && is_recoverable shape pool x) ≡ t
      → IsChosen (cond t (Some x) best) hs h → IsChosen best (x ∷ hs) h
  chosen_step x hs best h true is (inl e) =
      let same : x ≡ h = same_Some x h e in
      inr (inl (sym same), subst (λ y. is_recoverable shape pool y ≡ true) same (and_parts (is_above x best) (is_recoverable shape pool x) is).1)
  chosen_step x hs best h false is (inl e) = inl e
  chosen_step x hs best h t is (inr m) = inr (inr m.0, m.1)

  chosen_from : (hs : List Header) (best : Option Header) (h : Header) → fold (better_of shape pool) best hs ≡ Some h → IsChosen best hs h
  chosen_from [] best h e = inl e
  chosen_from (x ∷ hs) best h e =
      chosen_step x hs best h (is_above x best && is_recoverable shape pool x) refl (chosen_from hs (better_of shape pool best x) h e)

  not_at_first : (h : Header) (hs : List Header) → IsChosen None hs h → IsAmong h hs × (is_recoverable shape pool h ≡ true)
  not_at_first h hs (inl e) = absurd (none-some h e)
  not_at_first h hs (inr m) = m

  pub choice_among : (h : Header) → choice_of shape pool ≡ Some h → IsAmong h pool.headers × (is_recoverable shape pool h ≡ true)
  unfolding choice_of
  choice_among h e = not_at_first h pool.headers (chosen_from pool.headers None h e)

some_of : {A : Type 0} (o : Option A) → is_some o ≡ true → (x : A) × (o ≡ Some x)
some_of None e = absurd (false≢true e)
some_of (Some x) e = (x, refl)

-- ---- a pool of tagged records

-- a base whose record is tagged, with the blocks of its root; its strings are seen
pub record IsSeenBase (shape : Shape) (key : List ℕ) (judge : Judge) (strings : List (List ℕ)) (base : Base) : Type 0 where
  pub tagged : IsTagged shape key judge base.rec
  pub long : length base.blocks ≡ region_blocks shape
  pub root : root_of shape.height base.blocks ≡ base.rec.header.root
  pub seen : (x : List ℕ) → IsAmong x (tree_strings shape.height base.blocks) → IsAmong x strings

-- the header of a tagged record
pub record IsTaggedHeader (shape : Shape) (key : List ℕ) (judge : Judge) (h : Header) : Type 0 where
  pub rec : Record
  pub tagged : IsTagged shape key judge rec
  pub is : h ≡ rec.header

pub record IsTaggedPool (shape : Shape) (key : List ℕ) (judge : Judge) (strings : List (List ℕ)) (pool : Pool) : Type 0 where
  pub bases : (base : Base) → IsAmong base pool.bases → IsSeenBase shape key judge strings base
  pub parts : (rec : Record) → IsAmong rec pool.parts → IsTagged shape key judge rec
  pub headers : (h : Header) → IsAmong h pool.headers → IsTaggedHeader shape key judge h

-- the strings of a region's contents after each batch of a known session
abbrev pub HasContents : Shape → List (List ℕ) → Session → Type 0
HasContents shape strings known =
    (s g : ℕ) (x : List ℕ) → s ≤ length known.list → g < regions shape
    → IsAmong x (tree_strings shape.height (blocks_in shape (contents_after known s) g)) → IsAmong x strings

module _ (shape : Shape) (key : List ℕ) (judge : Judge) (strings : List (List ℕ)) (none : NoTwoCollide strings)
    (sized : EachKnown judge (IsSized shape)) (contents : EachKnown judge (HasContents shape strings))
    (pool : Pool) (tagged : IsTaggedPool shape key judge strings pool) where
  -- of each chain's end the blocks are those of the session's contents then
  ends_right : (e g : ℕ) (known : Session) → known_at judge e ≡ Some known → g < regions shape → (end : End) → IsAmong end (ends_of shape pool e g) → IsRightEnd shape known g end
  unfolding ends_of
  ends_right e g known at inside end m =
      right_ends shape key known (sized known e at) g inside strings none (λ s x within among. contents known e at s g x within inside among)
      (filter (λ base. is_of e g base.rec.header) pool.bases) (filter (λ rec. is_of e g rec.header) pool.parts)
      (λ base among.
      let kept = among_filter (λ b. is_of e g b.rec.header) base pool.bases among in
      let good = tagged.bases base kept.0 in
      record { own = own_of shape key judge known e g base.rec at (sized known e at) sized kept.1 good.tagged; long = good.long; root = good.root; seen = good.seen })
      (λ rec among.
      let kept = among_filter (λ r. is_of e g r.header) rec pool.parts among in
      own_of shape key judge known e g rec at (sized known e at) sized kept.1 (tagged.parts rec kept.0))
      (length pool.parts) end m

  -- a known session with the header's number within its list
  pub record IsHeaderOf (h : Header) (known : Session) : Type 0 where
    pub at : known_at judge h.session ≡ Some known
    pub above : known.base ≤ h.seq
    pub within : h.seq ≤ length known.list
    pub fronts : (r : ℕ) → r < regions shape → slice_index h.fronts r ≡ number_of shape known h.seq r

  header_known : (h : Header) → IsTaggedHeader shape key judge h → (known : Session) × IsHeaderOf h known
  header_known h from =
      let session = from.tagged.session in
      let says = told shape key session (sized session from.tagged.e from.tagged.known) from.tagged.g from.rec from.tagged.either in
      let here : IsTold shape session from.tagged.g h = subst (IsTold shape session from.tagged.g) (sym from.is) says in
      let number : from.tagged.e ≡ h.session = sym (known-session judge from.tagged.e session from.tagged.known) ∙ sym here.session in (
        session,
        record {
          at = subst (λ e. known_at judge e ≡ Some session) number from.tagged.known;
          above = here.above;
          within = here.within;
          fronts = here.fronts;
        },
      )

  -- what is recovered for such a header
  pick_right : (h : Header) (known : Session) → IsHeaderOf h known → (pick : List (List (List ℕ))) → recovered shape pool h ≡ Some pick
      → pick ≡ map (λ g. blocks_in shape (contents_after known h.seq) g) (all_regions shape)
  unfolding recovered
  pick_right h known of pick e =
      let from = find_among (λ p. has_top shape h p) pick (picks (choices_of shape pool h)) e in
      picks_same (λ g. blocks_up_to shape pool h.session g (slice_index h.fronts g)) (λ g. blocks_in shape (contents_after known h.seq) g) (all_regions shape) pick
      (λ g m x among.
      let range = among_range (regions shape) 0 g m in
      let inside : g < regions shape = omega arith in
      let end = among_map (λ (end : End). end.blocks) x (filter (λ end. end.at == slice_index h.fronts g) (ends_of shape pool h.session g)) among in
      let kept = among_filter (λ end. end.at == slice_index h.fronts g) end.0 (ends_of shape pool h.session g) end.1 in
      let right = ends_right h.session g known of.at inside end.0 kept.0 in
      let number : end.0.at ≡ number_of shape known h.seq g = eqb-true end.0.at (slice_index h.fronts g) kept.1 ∙ of.fronts g inside in
      end.2 ∙ (right.blocks ∙ (ap (λ n. blocks_in shape (contents_after known n) g) number
      ∙ (numbered shape known (sized known h.session of.at) g h.seq inside of.above of.within).blocks)))
      from.0

  -- the choice is a front part of a known session, and its blocks are the contents after it
  pub record IsRightChoice (h : Header) : Type 0 where
    pub known : Session
    pub of : IsHeaderOf h known
    pub blocks : recovered shape pool h ≡ Some (map (λ g. blocks_in shape (contents_after known h.seq) g) (all_regions shape))

  pub choice_right : (h : Header) → choice_of shape pool ≡ Some h → IsRightChoice h
  choice_right h e =
      let among = choice_among shape pool h e in
      let known = header_known h (tagged.headers h among.0) in
      let pick = some_of (recovered shape pool h) among.1 in
      record { known = known.0; of = known.1; blocks = pick.1 ∙ ap Some (pick_right h known.0 known.1 pick.0 pick.1) }
