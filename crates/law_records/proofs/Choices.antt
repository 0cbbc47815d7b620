-- What is recoverable, and that the choice is the greatest of it.
use Rattle.std.proofs.Common.{◌≡◌, ◌⊎◌, ℕ, ◌<◌, ◌≤◌, ◌∙◌, Bool, true, false, ◌==◌, ◌&&◌, nat_lt, cond, List, [], ◌∷◌, map, Option, None, Some, is_some, inl, inr, refl, ap, sym, subst, arith, ltb-true, eqb-true}
use Rattle.std.specs.Prelude.{filter, find, fold, slice_index}
use Rattle.std.proofs.lemmas.Bool.{and_parts, or_cases, or_left, or_right, lt-ltb, eq-eqb, false≢true}
use Rattle.std.proofs.lemmas.Slice.Eq.{bytes_eq-Decides}
use Rattle.std.proofs.lemmas.Simd.{map-map}
use Rattle.salus_types.specs.Volume.{Shape, regions}
use Rattle.salus_types.specs.declared.records.Header.{Header}
use Rattle.merkle_region.specs.Tree.{root_of, IsAmong}
use Rattle.merkle_volume.specs.Top.{top_of}
use Rattle.volume_model.specs.Contents.{blocks_in, all_regions, volume_top}
use Rattle.volume_model.specs.Parts.{Session, contents_after}
use Rattle.volume_model.specs.Recovering.{Pool, End, ends_of, blocks_up_to, picks, has_top, recovered, is_recoverable, is_above, better_of, choice_of}
use Rattle.list_lemmas.proofs.Members.{among_map-in, among_filter-in, among_flat_map-in, among_range}
use Rattle.law_records.proofs.Counted.{both_true}

-- ---- the greatest

-- the best is of a later session, or of the same one with at least that number
abbrev pub AtLeast : Header → Option Header → Type 0
AtLeast h None = ⊥
AtLeast h (Some best) = (h.session < best.session) ⊎ (h.session ≡ best.session) × (h.seq ≤ best.seq)

above_means : (x best : Header) → is_above x (Some best) ≡ true → (best.session < x.session) ⊎ (best.session ≡ x.session) × (best.seq < x.seq)
above_means x best is = elim (or_cases (nat_lt best.session x.session) ((best.session == x.session) && nat_lt best.seq x.seq) is) [
  | inl later ↦ inl (ltb-true best.session x.session later)
  | inr same ↦ let both = and_parts (best.session == x.session) (nat_lt best.seq x.seq) same in inr (eqb-true best.session x.session both.0, ltb-true best.seq x.seq both.1)
]

order : (a b c d : ℕ) → (a < b) ⊎ ((a ≡ b) × (c < d)) ⊎ ((b < a) ⊎ (b ≡ a) × (d ≤ c))
order a b c d = grind arith

not_above : (x best : Header) → is_above x (Some best) ≡ false → AtLeast x (Some best)
not_above x best isnt = elim (order best.session x.session best.seq x.seq) [
  | inl later ↦ absurd (false≢true (sym isnt ∙ or_left (nat_lt best.session x.session) _ (lt-ltb best.session x.session later)))
  | inr (inl same) ↦ absurd (false≢true (sym isnt ∙ or_right (nat_lt best.session x.session) _
      (both_true (best.session == x.session) (nat_lt best.seq x.seq) (eq-eqb best.session x.session same.0) (lt-ltb best.seq x.seq same.1))))
  | inr (inr least) ↦ least
]

least_then : (h best x : Header) → AtLeast h (Some best) → (best.session < x.session) ⊎ (best.session ≡ x.session) × (best.seq < x.seq) → AtLeast h (Some x)
least_then h best x least above = grind (arith, least, above)

module _ (shape : Shape) (pool : Pool) where
  keeps : (h x : Header) (best : Option Header) → AtLeast h best → AtLeast h (better_of shape pool best x)
  keeps h x None least = absurd least
  keeps h x (Some best) least = by (is_above x (Some best) && is_recoverable shape pool x) refl where
    by : (t : Bool) → (is_above x (Some best) && is_recoverable shape pool x) ≡ t → AtLeast h (cond t (Some x) (Some best))
    by true is = least_then h best x least (above_means x best (and_parts (is_above x (Some best)) (is_recoverable shape pool x) is).0)
    by false is = least

  takes : (h : Header) (best : Option Header) → is_recoverable shape pool h ≡ true → AtLeast h (better_of shape pool best h)
  takes h None is = subst (λ t. AtLeast h (cond t (Some h) None)) (sym is) (inr (refl, omega arith))
  takes h (Some best) is = by (is_above h (Some best)) refl where
    by : (t : Bool) → is_above h (Some best) ≡ t → AtLeast h (cond (t && is_recoverable shape pool h) (Some h) (Some best))
    by true above = subst (λ t. AtLeast h (cond t (Some h) (Some best))) (sym is) (inr (refl, omega arith))
    by false isnt = not_above h best isnt

  keeps_all : (h : Header) (hs : List Header) (best : Option Header) → AtLeast h best → AtLeast h (fold (better_of shape pool) best hs)
  keeps_all h [] best least = least
  keeps_all h (x ∷ hs) best least = keeps_all h hs (better_of shape pool best x) (keeps h x best least)

  takes_among : (h : Header) (hs : List Header) (best : Option Header) → IsAmong h hs → is_recoverable shape pool h ≡ true → AtLeast h (fold (better_of shape pool) best hs)
  takes_among h [] best m is = absurd m
  takes_among h (x ∷ hs) best (inl e) is = keeps_all h hs (better_of shape pool best x) (subst (λ y. AtLeast h (better_of shape pool best y)) e (takes h best is))
  takes_among h (x ∷ hs) best (inr m) is = takes_among h hs (better_of shape pool best x) m is

  pub choice_least : (h : Header) → IsAmong h pool.headers → is_recoverable shape pool h ≡ true → AtLeast h (choice_of shape pool)
  unfolding choice_of
  choice_least h m is = takes_among h pool.headers None m is

-- ---- what is recoverable

picks_in : {A : Type 0} (F : ℕ → List A) (G : ℕ → A) (gs : List ℕ) → ((g : ℕ) → IsAmong g gs → IsAmong (G g) (F g)) → IsAmong (map G gs) (picks (map F gs))
unfolding picks
picks_in F G [] each = inl refl
picks_in F G (g ∷ gs) each =
    among_flat_map-in (λ x. map (λ rest. x ∷ rest) (picks (map F gs))) (G g) (G g ∷ map G gs) (F g) (each g (inl refl))
    (among_map-in (λ rest. G g ∷ rest) (picks (map F gs)) (map G gs) (picks_in F G gs (λ i m. each i (inr m))))

found : {A : Type 0} (test : A → Bool) (xs : List A) (x : A) → IsAmong x xs → test x ≡ true → is_some (find test xs) ≡ true
found test [] x m good = absurd m
found test (y ∷ xs) x (inl e) good = ap (λ t. is_some (cond t (Some y) (find test xs))) (sym (ap test e) ∙ good)
found test (y ∷ xs) x (inr m) good = by (test y) (found test xs x m good) where
  by : (t : Bool) → is_some (find test xs) ≡ true → is_some (cond t (Some y) (find test xs)) ≡ true
  by true rest = refl
  by false rest = rest

-- a chain up to that number, with the session's blocks then
pub record HasEnd (shape : Shape) (pool : Pool) (known : Session) (e g at : ℕ) : Type 0 where
  pub end : End
  pub among : IsAmong end (ends_of shape pool e g)
  pub up_to : end.at ≡ at
  pub blocks : end.blocks ≡ blocks_in shape (contents_after known at) g

-- a header with a chain for each region up to its front, and with the session's top then
pub recoverable : (shape : Shape) (pool : Pool) (known : Session) (h : Header)
    → ((g : ℕ) → g < regions shape → HasEnd shape pool known h.session g (slice_index h.fronts g))
    → ((g : ℕ) → g < regions shape → blocks_in shape (contents_after known (slice_index h.fronts g)) g ≡ blocks_in shape (contents_after known h.seq) g)
    → h.top ≡ volume_top shape (contents_after known h.seq) → is_recoverable shape pool h ≡ true
unfolding recovered
recoverable shape pool known h ends same top =
    let F : ℕ → List (List (List ℕ)) = λ g. blocks_up_to shape pool h.session g (slice_index h.fronts g) in
    let G : ℕ → List (List ℕ) = λ g. blocks_in shape (contents_after known h.seq) g in
    found (λ pick. has_top shape h pick) (picks (map F (all_regions shape))) (map G (all_regions shape))
    (picks_in F G (all_regions shape) (λ g m.
    let range = among_range (regions shape) 0 g m in
    let inside : g < regions shape = omega arith in
    let has : HasEnd shape pool known h.session g (slice_index h.fronts g) = ends g inside in
    subst (λ blocks. IsAmong blocks (F g)) (has.blocks ∙ same g inside)
    (among_map-in (λ (end : End). end.blocks) (filter (λ (end : End). end.at == slice_index h.fronts g) (ends_of shape pool h.session g)) has.end
    (among_filter-in (λ (end : End). end.at == slice_index h.fronts g) (ends_of shape pool h.session g) has.end has.among (eq-eqb has.end.at (slice_index h.fronts g) has.up_to)))))
    ((bytes_eq-Decides (top_of shape.regions_log (map (λ blocks. root_of shape.height blocks) (map G (all_regions shape)))) h.top).1
    (ap (top_of shape.regions_log) (map-map (λ blocks. root_of shape.height blocks) G (all_regions shape)) ∙ sym top))
