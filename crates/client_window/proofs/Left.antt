-- What a batch leaves in blocks, and the entries of a map that hold it.
use Rattle.std.proofs.Common.{◌≡◌, ℕ, zero, suc, ◌+◌, ◌-◌, ◌*◌, ◌^◌, ◌<◌, ◌≤◌, ◌∙◌, Bool, true, false, not, ◌&&◌, ◌==◌, cond, if◌then◌else◌, List, [], ◌∷◌, ◌++◌, map, length, Option, Some, None, ◌⊎◌, ◌≢◌, inl, inr, refl, ap, ap₂, sym, subst, arith, eqb-true, ltb-true, leb-true, leb-false, nat_lt, nat_le}
use Rattle.std.specs.Prelude.{filter, filter_map}
use Rattle.std.specs.List.{range_with_len, AllByRecursion, cons_option}
use Rattle.std.specs.List.Sorted.{IsStrictlySortedBy}
use Rattle.std.specs.Option.{option_or, option_map}
use Rattle.std.specs.Borrow.{Bor}
use Rattle.std.specs.Ordering.{nat_cmp, is_eq, is_le}
use Rattle.std.specs.declared.cmp.Ordering.TheVariants.{Less, Equal, Greater}
use Rattle.std.specs.Cmp.{nat_cmp_is}
use Rattle.std.specs.Map.{lookup, keys_of}
use Rattle.std.specs.BTreeMap.{is_at}
use Rattle.std.specs.BTreeMap.Range.{range_contains, entries_between}
use Rattle.std.specs.declared.ops.Bound.TheVariants.{Included, Excluded}
use Rattle.std.proofs.lemmas.Bool.{cases_eq, le-leb, lt-leb}
use Rattle.std.proofs.lemmas.Map.Entries.{lookup-filter-keys}
use Rattle.salus_types.specs.Volume.{Shape, region_blocks}
use Rattle.salus_types.specs.declared.records.Write.{Write}
use Rattle.salus_types.specs.declared.records.PlaceWrite.{PlaceWrite}
use Rattle.volume_model.specs.Contents.{Batch}
use Rattle.volume_model.specs.Parts.{bytes_left, placed, writes_in}
use Rattle.client_window.specs.Written.{Entry, bytes_in, Leaves, write_of, writes_between}

by_test : (P : Bool → Type 0) (test : Bool) → (test ≡ true → P true) → (test ≡ false → P false) → P test
by_test P true hit miss = hit refl
by_test P false hit miss = miss refl

-- ---- a query among keys

equal_at : (x y : ℕ) → x ≡ y → is_at (nat_cmp x) y ≡ true
equal_at x y same = ap is_eq (sym (nat_cmp_is x y Equal same))

below_at : (x y : ℕ) → x < y → is_at (nat_cmp x) y ≡ false
below_at x y less = ap is_eq (sym (nat_cmp_is x y Less less))

above_at : (x y : ℕ) → y < x → is_at (nat_cmp x) y ≡ false
above_at x y less = ap is_eq (sym (nat_cmp_is x y Greater less))

-- ---- a batch with one write more

or_none : {A : Type 0} (o : Option A) → option_or o None ≡ o
or_none None = refl
or_none (Some x) = refl

or_assoc : {A : Type 0} (a b c : Option A) → option_or (option_or a b) c ≡ option_or a (option_or b c)
or_assoc None b c = refl
or_assoc (Some x) b c = refl

abbrev hit : Write → ℕ → Option (List ℕ)
hit w b = if w.block == b then Some w.bytes else None

left_more : (batch : Batch) (w : Write) (b : ℕ) → bytes_left (batch ++ w ∷ []) b ≡ option_or (hit w b) (bytes_left batch b)
unfolding bytes_left
left_more [] w b = sym (or_none (hit w b))
left_more (v ∷ batch) w b = ap (λ o. option_or o (hit v b)) (left_more batch w b) ∙ or_assoc (hit w b) (bytes_left batch b) (hit v b)

abbrev bytes_of : Option (Bor (List ℕ)) → Option (List ℕ)
bytes_of o = option_map (λ (r : Bor (List ℕ)). r.now) o

hit_or_miss : (t : Bool) (v : Bor (List ℕ)) (bytes : List ℕ) (old : Option (Bor (List ℕ))) → v.now ≡ bytes
    → bytes_of (cond t (Some v) old) ≡ option_or (if t then Some bytes else None) (bytes_of old)
hit_or_miss true v bytes old same = ap (λ x. Some x) same
hit_or_miss false v bytes old same = refl

apart : (t u : Bool) → u ≡ false → is_eq (cond t Less (cond u Equal Greater)) ≡ false
apart true u is = refl
apart false u is = ap (λ b. is_eq (cond b Equal Greater)) is

at_is : (x y : ℕ) → is_at (nat_cmp x) y ≡ (x == y)
at_is x y = by_eq (x == y) refl where
  by_eq : (t : Bool) → (x == y) ≡ t → is_at (nat_cmp x) y ≡ t
  by_eq true is = equal_at x y (eqb-true x y is)
  by_eq false is = apart (nat_lt x y) (x == y) is

pub leaves_none : (es : List Entry) → es ≡ [] → Leaves [] es
unfolding bytes_left
leaves_none es none b = ap (λ l. bytes_in l b) none

-- what the map has for each block, after the next write is put in
pub leaves_more : (batch : Batch) (w : Write) (v : Bor (List ℕ)) (old new : List Entry) → v.now ≡ w.bytes
    → ((b : ℕ) → lookup (is_at (nat_cmp b)) new ≡ cond (is_at (nat_cmp w.block) b) (Some v) (lookup (is_at (nat_cmp b)) old))
    → Leaves batch old → Leaves (batch ++ w ∷ []) new
leaves_more batch w v old new same put leaves b =
    ap bytes_of (put b) ∙ ap (λ t. bytes_of (cond t (Some v) (lookup (is_at (nat_cmp b)) old))) (at_is w.block b)
    ∙ hit_or_miss (w.block == b) v w.bytes (lookup (is_at (nat_cmp b)) old) same
    ∙ ap (option_or (hit w b)) (leaves b) ∙ sym (left_more batch w b)

-- ---- the entries of blocks that lie together

abbrev pub IsIn : ℕ → ℕ → Entry → Type 0
IsIn low high e = (low ≤ e.0) × (e.0 < high)

none_below : (b : ℕ) (es : List Entry) → AllByRecursion (λ (e : Entry). b < e.0) es → lookup (is_at (nat_cmp b)) es ≡ None
none_below b [] above = refl
none_below b (e ∷ es) above = ap (λ t. cond t (Some e.1) (lookup (is_at (nat_cmp b)) es)) (below_at b e.0 above.0) ∙ none_below b es above.1

is_less : (t u : Bool) → cond t Less (cond u Equal Greater) ≡ Less → t ≡ true
is_less true u is = refl
is_less false true is = absurd (cc)
is_less false false is = absurd (cc)

less_from : (x y : ℕ) → nat_cmp x y ≡ Less → x < y
less_from x y is = ltb-true x y (is_less (nat_lt x y) (x == y) is)

-- the keys of the others are above the first
behind : (e : Entry) (es : List Entry) (low high : ℕ) → low ≤ e.0 → AllByRecursion (λ y. nat_cmp e.0 y ≡ Less) (keys_of es) → AllByRecursion (IsIn low high) es → AllByRecursion (IsIn (e.0 + 1) high) es
behind e [] low high up sorted inside = tt
behind e (f ∷ es) low high up sorted inside =
    let apart : e.0 < f.0 = less_from e.0 f.0 sorted.0 in
    ((omega arith, inside.0.1), behind e es low high up sorted.1 inside.1)

raised : (low high : ℕ) (e : Entry) (es : List Entry) → low < e.0 → AllByRecursion (λ y. nat_cmp e.0 y ≡ Less) (keys_of es) → AllByRecursion (IsIn low high) (e ∷ es) → AllByRecursion (IsIn (low + 1) high) (e ∷ es)
raised low high e es up sorted inside = ((omega arith, inside.0.1), weaken es (behind e es low high (omega arith) sorted inside.1)) where
  weaken : (es : List Entry) → AllByRecursion (IsIn (e.0 + 1) high) es → AllByRecursion (IsIn (low + 1) high) es
  weaken [] all = tt
  weaken (f ∷ es) all = ((omega (arith, all.0.0), all.0.1), weaken es all.1)

above_all : (low high : ℕ) (es : List Entry) → AllByRecursion (IsIn (low + 1) high) es → AllByRecursion (λ (e : Entry). low < e.0) es
above_all low high [] all = tt
above_all low high (e ∷ es) all = (omega (arith, all.0.0), above_all low high es all.1)

abbrev write_at : (ℕ → Option (List ℕ)) → ℕ → ℕ → Option PlaceWrite
write_at f from i = placed i (f (from + i))

-- the same bounds, written otherwise
shift : (from n k at : ℕ) (es : List Entry) → at ≡ from + k → AllByRecursion (IsIn (at + 1) (from + k + suc n)) es → AllByRecursion (IsIn (from + (k + 1)) (from + (k + 1) + n)) es
shift from n k at [] same all = tt
shift from n k at (e ∷ es) same all = ((omega (arith, all.0.0, all.0.1), omega (arith, all.0.0, all.0.1)), shift from n k at es same all.1)

next : (from n k : ℕ) (es : List Entry) → AllByRecursion (IsIn (from + k + 1) (from + k + suc n)) es → AllByRecursion (IsIn (from + (k + 1)) (from + (k + 1) + n)) es
next from n k [] all = tt
next from n k (e ∷ es) all = ((omega (arith, all.0.0, all.0.1), omega (arith, all.0.0, all.0.1)), next from n k es all.1)

-- the first entry is of the next block
hit_first : (f : ℕ → Option (List ℕ)) (from n k : ℕ) (e : Entry) (es : List Entry) → e.0 ≡ from + k → f (from + k) ≡ bytes_in (e ∷ es) (from + k)
    → filter_map (write_at f from) (range_with_len (k + 1) n) ≡ map (write_of from) es
    → filter_map (write_at f from) (range_with_len k (suc n)) ≡ map (write_of from) (e ∷ es)
hit_first f from n k e es at is rest =
    let found : f (from + k) ≡ Some e.1.now = is ∙ ap (λ t. bytes_of (cond t (Some e.1) (lookup (is_at (nat_cmp (from + k))) es))) (equal_at (from + k) e.0 (sym at)) in
    let place : k ≡ e.0 - from = omega arith in
    ap₂ (λ o ws. cons_option (placed k o) ws) found rest ∙ ap (λ i. record { place = i; bytes = e.1.now } ∷ map (write_of from) es) place

-- it is of a later block
miss_first : (f : ℕ → Option (List ℕ)) (from n k : ℕ) (es : List Entry) → f (from + k) ≡ None
    → filter_map (write_at f from) (range_with_len (k + 1) n) ≡ map (write_of from) es
    → filter_map (write_at f from) (range_with_len k (suc n)) ≡ map (write_of from) es
miss_first f from n k es none rest = ap₂ (λ o ws. cons_option (placed k o) ws) none rest

split : (low x : ℕ) → low ≤ x → (x ≡ low) ⊎ (low < x)
split low x up = elim (cases_eq x low) [ inl same ↦ inl same | inr off ↦ inr (let apart : x ≢ low = off in omega arith) ]

-- Ascending entries of the blocks from `from + k` on, for n blocks: they are what a function over blocks gives there, one by one.
pub in_order : (f : ℕ → Option (List ℕ)) (from n k : ℕ) (es : List Entry) → IsStrictlySortedBy nat_cmp (keys_of es) → AllByRecursion (IsIn (from + k) (from + k + n)) es
    → ((b : ℕ) → from + k ≤ b → b < from + k + n → f b ≡ bytes_in es b)
    → filter_map (write_at f from) (range_with_len k n) ≡ map (write_of from) es
unfolding IsStrictlySortedBy
in_order f from zero k [] sorted inside is = refl
in_order f from zero k (e ∷ es) sorted inside is = absurd (omega (arith, inside.0.0, inside.0.1))
in_order f from (suc n) k [] sorted inside is =
    miss_first f from n k [] (is (from + k) (omega arith) (omega arith))
    (in_order f from n (k + 1) [] tt tt (λ b up down. is b (omega arith) (omega arith)))
in_order f from (suc n) k (e ∷ es) sorted inside is =
    elim (split (from + k) e.0 inside.0.0) [
      | inl at ↦
          hit_first f from n k e es at (is (from + k) (omega arith) (omega arith))
          (in_order f from n (k + 1) es sorted.1 (shift from n k e.0 es at (behind e es (from + k) (from + k + suc n) (omega arith) sorted.0 inside.1))
          (λ b up down. is b (omega arith) (omega arith)
          ∙ ap (λ t. bytes_of (cond t (Some e.1) (lookup (is_at (nat_cmp b)) es))) (above_at b e.0 (omega arith))))
      | inr above ↦
          miss_first f from n k (e ∷ es)
          (is (from + k) (omega arith) (omega arith) ∙ ap bytes_of (none_below (from + k) (e ∷ es) (above_all (from + k) (from + k + suc n) (e ∷ es) (raised (from + k) (from + k + suc n) e es above sorted.0 inside))))
          (in_order f from n (k + 1) (e ∷ es) sorted (next from n k (e ∷ es) (raised (from + k) (from + k + suc n) e es above sorted.0 inside))
          (λ b up down. is b (omega arith) (omega arith)))
    ]

-- ---- those of a region

sorted_tests : (P : ℕ → Type 0) (p : Entry → Bool) (es : List Entry) → AllByRecursion P (keys_of es) → AllByRecursion P (keys_of (filter p es))
sorted_tests P p [] all = tt
sorted_tests P p (e ∷ es) all =
    elim (p e) as (λ t. AllByRecursion P (keys_of (cond t (e ∷ filter p es) (filter p es)))) [
      | true ↦ (all.0, sorted_tests P p es all.1)
      | false ↦ sorted_tests P p es all.1
    ]

sorted-filter : (p : Entry → Bool) (es : List Entry) → IsStrictlySortedBy nat_cmp (keys_of es) → IsStrictlySortedBy nat_cmp (keys_of (filter p es))
unfolding IsStrictlySortedBy
sorted-filter p [] sorted = tt
sorted-filter p (e ∷ es) sorted =
    elim (p e) as (λ t. IsStrictlySortedBy nat_cmp (keys_of (cond t (e ∷ filter p es) (filter p es)))) [
      | true ↦ (sorted_tests (λ y. nat_cmp e.0 y ≡ Less) p es sorted.0, sorted-filter p es sorted.1)
      | false ↦ sorted-filter p es sorted.1
    ]

abbrev is_between : ℕ → ℕ → ℕ → Bool
is_between from to b = range_contains nat_cmp (Included from) (Excluded to) b

le_tests : (x y : ℕ) → is_le (nat_cmp x y) ≡ nat_le x y
le_tests x y = grind arith

between_bounds : (from to b : ℕ) → is_between from to b ≡ true → (from ≤ b) × (b < to)
between_bounds from to b passes =
    let tests : (nat_le from b && not (nat_le to b)) ≡ true = ap₂ (λ s t. s && not t) (sym (le_tests from b)) (sym (le_tests to b)) ∙ passes in
    (both_bounds (nat_le from b) (nat_le to b) tests refl refl)
  where
    both_bounds : (s t : Bool) → (s && not t) ≡ true → nat_le from b ≡ s → nat_le to b ≡ t → (from ≤ b) × (b < to)
    both_bounds true true h up down = absurd (cc)
    both_bounds true false h up down = (leb-true from b up, leb-false to b down)
    both_bounds false t h up down = absurd (cc)

bounds_between : (from to b : ℕ) → from ≤ b → b < to → is_between from to b ≡ true
bounds_between from to b up down =
    ap₂ (λ s t. s && not t) (le_tests from b) (le_tests to b) ∙ ap₂ (λ s t. s && not t) (le-leb from b up) (lt-leb to b down)

pub all_between : (from to : ℕ) (es : List Entry) → AllByRecursion (IsIn from to) (entries_between nat_cmp (Included from) (Excluded to) es)
all_between from to [] = tt
all_between from to (e ∷ es) =
    by_test (λ t. AllByRecursion (IsIn from to) (cond t (e ∷ entries_between nat_cmp (Included from) (Excluded to) es) (entries_between nat_cmp (Included from) (Excluded to) es)))
    (is_between from to e.0)
    (λ passes. (between_bounds from to e.0 passes, all_between from to es))
    (λ _. all_between from to es)

same_between : (from to b : ℕ) (es : List Entry) → from ≤ b → b < to → bytes_in es b ≡ bytes_in (entries_between nat_cmp (Included from) (Excluded to) es) b
same_between from to b es up down =
    ap bytes_of (sym (lookup-filter-keys (is_at (nat_cmp b)) (is_between from to) true
    (λ k at. let same : b ≡ k = eqb-true b k (sym (at_is b k) ∙ at) in bounds_between from to k (omega arith) (omega arith)) es))

-- The entries of a region's blocks are the batch's part there.
writes_from : (shape : Shape) (batch : Batch) (es : List Entry) (g first : ℕ) → first ≡ g * region_blocks shape → IsStrictlySortedBy nat_cmp (keys_of es) → Leaves batch es
    → writes_between first (first + region_blocks shape) es ≡ writes_in shape batch g
writes_from shape batch es g first at sorted leaves =
    let n = region_blocks shape in
    let between = entries_between nat_cmp (Included first) (Excluded (first + n)) es in
    sym (ap (λ from. filter_map (write_at (bytes_left batch) from) (range_with_len 0 n)) (sym at)
    ∙ in_order (bytes_left batch) first n 0 between (sorted-filter (λ e. is_between first (first + n) e.0) es sorted)
    (subst (λ low. AllByRecursion (IsIn low (low + n)) between) (let same : first ≡ first + 0 = omega arith in same) (all_between first (first + n) es))
    (λ b up down. sym (leaves b) ∙ same_between first (first + n) b es (omega arith) (omega arith)))

pub writes_are : (shape : Shape) (batch : Batch) (es : List Entry) (g first to : ℕ) → first ≡ g * region_blocks shape → to ≡ first + region_blocks shape
    → IsStrictlySortedBy nat_cmp (keys_of es) → Leaves batch es → writes_between first to es ≡ writes_in shape batch g
writes_are shape batch es g first to at up sorted leaves = ap (λ high. writes_between first high es) up ∙ writes_from shape batch es g first at sorted leaves
