-- The roots after a batch: those of the regions that it touches are new, and the others stay.
use Rattle.std.proofs.Common.{◌≡◌, ◌≢◌, ℕ, zero, suc, ◌+◌, ◌-◌, ◌*◌, ◌/◌, ◌^◌, ◌<◌, ◌≤◌, ◌∙◌, Bool, true, false, ◌&&◌, ◌||◌, ◌==◌, cond, if◌then◌else◌, List, [], ◌∷◌, ◌++◌, map, length, take, drop, set, get_or, Option, Some, ◌⊎◌, inl, inr, refl, ap, ap₂, sym, subst, arith, eq-eqb, nat_le, leb-true, leb-false, append-nil, append_assoc, length-append, div-lt_iff_lt-mul}
use Rattle.std.specs.Prelude.{filter, nat_lt, slice_get}
use Rattle.std.specs.List.{range_with_len, list_all}
use Rattle.std.proofs.lemmas.Bool.{cases_eq, or_parts, false≢true, lt-ltb}
use Rattle.std.proofs.lemmas.List.{take-set-le, drop-set-lt, drop-set-add, length-set, get_or-set_same, get_or-set_other}
use Rattle.std.proofs.lemmas.List.FromFn.{get_or-map-range_with_len, length-map-range_with_len}
use Rattle.std.proofs.Math.Seq.{set-append_seam}
use Rattle.std.proofs.lemmas.Nat.{pow_pos}
use native.Mathlib.Nat.{suc-mul}
use Rattle.salus_types.specs.Volume.{Shape, regions, region_blocks}
use Rattle.salus_types.specs.declared.records.Write.{Write}
use Rattle.merkle_region.specs.Tree.{root_of}
use Rattle.volume_model.specs.Contents.{Batch, region_of, all_regions, apply, blocks_in, region_root, roots_of}
use Rattle.volume_model.specs.Parts.{touches, touched_by}
use Rattle.client_window.specs.Untagged.{with_roots}
use Rattle.client_window.specs.Standing.{HasRoots}

by_test : (P : Bool → Type 0) (test : Bool) → (test ≡ true → P true) → (test ≡ false → P false) → P test
by_test P true hit miss = hit refl
by_test P false hit miss = miss refl

-- ---- blocks that a batch doesn't touch

module _ (n g : ℕ) (contents : List (List ℕ)) (b : ℕ) (bytes : List ℕ) where
  before_it : b < g * n → take n (drop (g * n) (set contents b bytes)) ≡ take n (drop (g * n) contents)
  before_it less = ap (take n) (drop-set-lt (g * n) contents b bytes less)

  behind_it : g * n + n ≤ b → take n (drop (g * n) (set contents b bytes)) ≡ take n (drop (g * n) contents)
  behind_it more =
      let at : b ≡ g * n + (b - g * n) = omega arith in
      let far : n ≤ b - g * n = omega arith in
      ap (λ k. take n (drop (g * n) (set contents k bytes))) at
      ∙ ap (take n) (drop-set-add (g * n) contents (b - g * n) bytes)
      ∙ take-set-le n (drop (g * n) contents) (b - g * n) bytes far

le_or_lt : (m n : ℕ) → (m ≤ n) ⊎ (n < m)
le_or_lt m n = by_test (λ t. (m ≤ n) ⊎ (n < m)) (nat_le m n) (λ hit. inl (leb-true m n hit)) (λ miss. inr (leb-false m n miss))

cases_lt : (x y : ℕ) → x ≢ y → (x < y) ⊎ (y < x)
cases_lt x y off = elim (le_or_lt x y) [ inl up ↦ inl (omega arith) | inr down ↦ inr down ]

module _ (shape : Shape) where
  abbrev size : ℕ
  size = region_blocks shape

  some : 0 < region_blocks shape
  some = pow_pos shape.height

  -- a block of a later region lies behind all of this one
  past : (b g : ℕ) → g < region_of shape b → g * size + size ≤ b
  past b g more = elim (le_or_lt (g * size + size) b) [
    | inl up ↦ up
    | inr down ↦
        let here : b < suc g * size = let same : suc g * size ≡ g * size + size = suc-mul g size in omega arith in
        let below : region_of shape b < suc g = (div-lt_iff_lt-mul some).1 here in
        absurd (omega arith)
  ]

  elsewhere : (contents : List (List ℕ)) (b : ℕ) (bytes : List ℕ) (g : ℕ) → region_of shape b ≢ g → blocks_in shape (set contents b bytes) g ≡ blocks_in shape contents g
  elsewhere contents b bytes g apart =
      elim (cases_lt (region_of shape b) g apart) [
        | inl less ↦ before_it size g contents b bytes ((div-lt_iff_lt-mul some).0 less)
        | inr more ↦ behind_it size g contents b bytes (past b g more)
      ]

  untouched : (batch : Batch) (contents : List (List ℕ)) (g : ℕ) → touches shape batch g ≡ false → blocks_in shape (apply contents batch) g ≡ blocks_in shape contents g
  unfolding apply
  untouched [] contents g none = refl
  untouched (w ∷ batch) contents g none =
      let parts = or_parts _ _ none in
      untouched batch (set contents w.block w.bytes) g parts.1
      ∙ elsewhere contents w.block w.bytes g (λ same. false≢true (sym parts.0 ∙ eq-eqb (region_of shape w.block) g same))

-- ---- each region's new root in its place

module _ (test : ℕ → Bool) (new old : ℕ → List ℕ) where
  abbrev mixed : ℕ → List ℕ
  mixed g = if test g then new g else old g

  placed_from : (n a : ℕ) (front : List (List ℕ)) → length front ≡ a
      → with_roots (filter test (range_with_len a n)) (map new (filter test (range_with_len a n))) (front ++ map old (range_with_len a n)) ≡ front ++ map mixed (range_with_len a n)
  unfolding with_roots
  placed_from zero a front long = refl
  placed_from (suc n) a front long =
      let rest = filter test (range_with_len (a + 1) n) in
      by_test
      (λ t. with_roots (cond t (a ∷ rest) rest) (map new (cond t (a ∷ rest) rest)) (front ++ old a ∷ map old (range_with_len (a + 1) n))
      ≡ front ++ (if t then new a else old a) ∷ map mixed (range_with_len (a + 1) n))
      (test a)
      (λ _.
      ap (with_roots rest (map new rest))
      (ap (λ i. set (front ++ old a ∷ map old (range_with_len (a + 1) n)) i (new a)) (sym long)
      ∙ set-append_seam front (old a) (map old (range_with_len (a + 1) n)) (new a) ∙ split (new a) (map old (range_with_len (a + 1) n)))
      ∙ placed_from n (a + 1) (front ++ new a ∷ []) (length-append front (new a ∷ []) ∙ ap (λ k. k + 1) long)
      ∙ sym (split (new a) (map mixed (range_with_len (a + 1) n))))
      (λ _.
      ap (with_roots rest (map new rest)) (split (old a) (map old (range_with_len (a + 1) n)))
      ∙ placed_from n (a + 1) (front ++ old a ∷ []) (length-append front (old a ∷ []) ∙ ap (λ k. k + 1) long)
      ∙ sym (split (old a) (map mixed (range_with_len (a + 1) n))))
    where
      split : (x : List ℕ) (xs : List (List ℕ)) → front ++ x ∷ xs ≡ (front ++ x ∷ []) ++ xs
      split x xs = sym (append_assoc front (x ∷ []) xs)

same_range : (f g : ℕ → List ℕ) → ((r : ℕ) → f r ≡ g r) → (xs : List ℕ) → map f xs ≡ map g xs
same_range f g same xs = λ i. map (λ r. same r i) xs

-- The roots after a batch are those of the contents after it.
pub roots_are : (shape : Shape) (contents : List (List ℕ)) (batch : Batch) (news : List (List ℕ)) → HasRoots shape contents batch news
    → with_roots (touched_by shape batch) news (roots_of shape contents) ≡ roots_of shape (apply contents batch)
roots_are shape contents batch news are =
    let new : ℕ → List ℕ = λ g. region_root shape (apply contents batch) g in
    let old : ℕ → List ℕ = λ g. region_root shape contents g in
    let test : ℕ → Bool = λ g. touches shape batch g in
    ap (λ l. with_roots (touched_by shape batch) l (roots_of shape contents)) (sym are)
    ∙ placed_from test new old (regions shape) 0 [] refl
    ∙ same_range (mixed test new old) new
    (λ g. by_test (λ t. touches shape batch g ≡ t → (if t then new g else old g) ≡ new g) (touches shape batch g) (λ _ _. refl)
    (λ _ none. ap (root_of shape.height) (sym (untouched shape batch contents g none))) refl)
    (all_regions shape)

pub root_at : (shape : Shape) (contents : List (List ℕ)) (g : ℕ) → g < regions shape → get_or (roots_of shape contents) g [] ≡ region_root shape contents g
root_at shape contents g inside = get_or-map-range_with_len (λ r. region_root shape contents r) 0 (regions shape) g g [] inside (omega arith)

pub length-roots_of : (shape : Shape) (contents : List (List ℕ)) → length (roots_of shape contents) ≡ regions shape
length-roots_of shape contents = length-map-range_with_len (λ r. region_root shape contents r) 0 (regions shape)

-- ---- what stands where

pub length-with_roots : (touched : List ℕ) (news roots : List (List ℕ)) → length (with_roots touched news roots) ≡ length roots
unfolding with_roots
length-with_roots [] news roots = refl
length-with_roots (g ∷ touched) [] roots = refl
length-with_roots (g ∷ touched) (new ∷ news) roots = length-with_roots touched news (set roots g new) ∙ length-set roots g new

-- regions that rise from `low` on and stay below `high`
abbrev pub Rises : ℕ → ℕ → List ℕ → Type 0
Rises low high [] = Unit {0}
Rises low high (g ∷ touched) = (low ≤ g) × (g < high) × Rises (g + 1) high touched

pub rises_more : (low lower high : ℕ) (touched : List ℕ) → lower ≤ low → Rises low high touched → Rises lower high touched
rises_more low lower high [] less rises = tt
rises_more low lower high (g ∷ touched) less rises = (omega (arith, rises.0), rises.1, rises.2)

pub filter_rises : (test : ℕ → Bool) (n a high : ℕ) → a + n ≤ high → Rises a high (filter test (range_with_len a n))
filter_rises test zero a high up = tt
filter_rises test (suc n) a high up =
    elim (test a) as (λ t. Rises a high (cond t (a ∷ filter test (range_with_len (a + 1) n)) (filter test (range_with_len (a + 1) n)))) [
      | true ↦ (omega arith, omega arith, filter_rises test n (a + 1) high (omega arith))
      | false ↦ rises_more (a + 1) a high (filter test (range_with_len (a + 1) n)) (omega arith) (filter_rises test n (a + 1) high (omega arith))
    ]

pub touched_rises : (shape : Shape) (batch : Batch) → Rises 0 (regions shape) (touched_by shape batch)
touched_rises shape batch = filter_rises (λ g. touches shape batch g) (regions shape) 0 (regions shape) (omega arith)

pub rises_within : (low high : ℕ) (touched : List ℕ) → Rises low high touched → list_all (λ g. nat_lt g high) touched ≡ true
rises_within low high [] rises = refl
rises_within low high (g ∷ touched) rises = ap₂ (λ a b. a && b) (lt-ltb g high rises.1) (rises_within (g + 1) high touched rises.2)

pub touched_within : (shape : Shape) (batch : Batch) (touched : List ℕ) (n : ℕ) → touched ≡ touched_by shape batch → n ≡ regions shape → list_all (λ g. nat_lt g n) touched ≡ true
touched_within shape batch touched n are count =
    ap₂ (λ l m. list_all (λ g. nat_lt g m) l) are count ∙ rises_within 0 (regions shape) (touched_by shape batch) (touched_rises shape batch)

kept_root : (touched : List ℕ) (news roots : List (List ℕ)) (g low high : ℕ) → g < low → Rises low high touched → get_or (with_roots touched news roots) g [] ≡ get_or roots g []
unfolding with_roots
kept_root [] news roots g low high less rises = refl
kept_root (h ∷ touched) [] roots g low high less rises = refl
kept_root (h ∷ touched) (new ∷ news) roots g low high less rises =
    kept_root touched news (set roots h new) g (h + 1) high (omega (arith, rises.0)) rises.2
    ∙ get_or-set_other roots h g new [] (let apart : g ≢ h = omega (arith, rises.0) in apart)

-- these roots stand at those regions
abbrev pub StandAt : List (List ℕ) → List ℕ → List (List ℕ) → Type 0
StandAt roots [] news = Unit {0}
StandAt roots (g ∷ touched) [] = Unit {0}
StandAt roots (g ∷ touched) (new ∷ news) = (get_or roots g [] ≡ new) × StandAt roots touched news

pub new_roots_stand : (touched : List ℕ) (news roots : List (List ℕ)) (low : ℕ) → Rises low (length roots) touched → StandAt (with_roots touched news roots) touched news
unfolding with_roots
new_roots_stand [] news roots low rises = tt
new_roots_stand (g ∷ touched) [] roots low rises = tt
new_roots_stand (g ∷ touched) (new ∷ news) roots low rises =
    let long : length (set roots g new) ≡ length roots = length-set roots g new in
    let later : Rises (g + 1) (length (set roots g new)) touched = subst (λ n. Rises (g + 1) n touched) (sym long) rises.2 in
    let there : g < length roots = rises.1 in (
      kept_root touched news (set roots g new) g (g + 1) (length (set roots g new)) (omega arith) later ∙ get_or-set_same roots g new [] there,
      new_roots_stand touched news (set roots g new) (g + 1) later,
    )

got : (xs : List (List ℕ)) (i : ℕ) (x : List ℕ) → slice_get xs i ≡ Some x → x ≡ get_or xs i []
got [] i x at = absurd (cc)
got (y ∷ xs) zero x at = cc
got (y ∷ xs) (suc i) x at = got xs i x at

-- the root that stands for a region is that of the contents
pub root_found : (shape : Shape) (contents roots : List (List ℕ)) (g : ℕ) (root : List ℕ) → roots ≡ roots_of shape contents → g < regions shape → slice_get roots g ≡ Some root → root ≡ region_root shape contents g
root_found shape contents roots g root are inside at = got roots g root at ∙ ap (λ l. get_or l g []) are ∙ root_at shape contents g inside
