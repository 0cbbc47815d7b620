-- Maps and tests of lists by functions that agree everywhere, and elements by their place.
use Rattle.std.proofs.Common.{◌≡◌, ◌∙◌, ◌&&◌, false, ℕ, zero, suc, ◌+◌, ◌-◌, ◌<◌, ◌≤◌, nat_lt, Bool, if◌then◌else◌, List, [], ◌∷◌, ◌++◌, map, length, take, drop, None, Some, inl, inr, refl, sym, ap, true, arith}
use Rattle.std.specs.Prelude.{filter, slice_get, replicate}
use Rattle.std.specs.List.{list_any, list_all}
use Rattle.std.proofs.lemmas.Bool.{lt-ltb, and_parts}
use Rattle.std.proofs.lemmas.Option.{none-some, same_Some}
use Rattle.merkle_region.specs.Tree.{IsAmong}

-- ---- functions that agree everywhere

pub map_same : {X Y : Type 0} (f g : X → Y) → ((x : X) → f x ≡ g x) → (xs : List X) → map f xs ≡ map g xs
map_same f g same xs = λ i. map (λ x. same x i) xs

pub list_any_same : {X : Type 0} (f g : X → Bool) → ((x : X) → f x ≡ g x) → (xs : List X) → list_any f xs ≡ list_any g xs
list_any_same f g same xs = λ i. list_any (λ x. same x i) xs

pub list_all_same : {X : Type 0} (f g : X → Bool) → ((x : X) → f x ≡ g x) → (xs : List X) → list_all f xs ≡ list_all g xs
list_all_same f g same xs = λ i. list_all (λ x. same x i) xs

pub filter_same : {X : Type 0} (f g : X → Bool) → ((x : X) → f x ≡ g x) → (xs : List X) → filter f xs ≡ filter g xs
filter_same f g same xs = λ i. filter (λ x. same x i) xs

-- ---- what all pass

pub all_take : {A : Type 0} (test : A → Bool) (n : ℕ) (xs : List A) → list_all test xs ≡ true → list_all test (take n xs) ≡ true
all_take test zero xs all = refl
all_take test (suc n) [] all = refl
all_take test (suc n) (x ∷ xs) all = both (test x) (list_all test xs) (list_all test (take n xs)) all (all_take test n xs) where
  both : (a b c : Bool) → (a && b) ≡ true → (b ≡ true → c ≡ true) → (a && c) ≡ true
  both true b c e f = f e
  both false b c e f = absurd (cc)

pub all_drop : {A : Type 0} (test : A → Bool) (n : ℕ) (xs : List A) → list_all test xs ≡ true → list_all test (drop n xs) ≡ true
all_drop test zero xs all = all
all_drop test (suc n) [] all = refl
all_drop test (suc n) (x ∷ xs) all = all_drop test n xs (and_parts (test x) (list_all test xs) all).1

pub all_replicate : {A : Type 0} (test : A → Bool) (n : ℕ) (x : A) → test x ≡ true → list_all test (replicate n x) ≡ true
all_replicate test zero x e = refl
all_replicate test (suc n) x e = rw e (all_replicate test n x e)

-- ---- elements by their place

-- the one behind a front part
pub get_after : {A : Type 0} (before rest : List A) (x : A) → slice_get (before ++ x ∷ rest) (length before) ≡ Some x
get_after [] rest x = refl
get_after (y ∷ before) rest x = get_after before rest x

got_dropped : {A : Type 0} (b : ℕ) (xs : List A) (i : ℕ) → slice_get (drop b xs) i ≡ slice_get xs (b + i)
got_dropped zero xs i = ap (λ (n : ℕ). slice_get xs n) (same i) where
  same : (i : ℕ) → i ≡ zero + i
  same i = omega arith
got_dropped (suc b) [] i = refl
got_dropped (suc b) (x ∷ xs) i = got_dropped b xs i ∙ ap (λ (n : ℕ). slice_get (x ∷ xs) n) (same b i) where
  same : (b i : ℕ) → suc (b + i) ≡ suc b + i
  same b i = omega arith

among_take : {A : Type 0} (xs : List A) (n i : ℕ) (x : A) → slice_get xs i ≡ Some x → i < n → IsAmong x (take n xs)
among_take [] n i x at within = absurd (none-some x at)
among_take (y ∷ xs) zero i x at within = absurd (omega arith)
among_take (y ∷ xs) (suc n) zero x at within = inl (sym (same_Some y x at))
among_take (y ∷ xs) (suc n) (suc i) x at within = inr (among_take xs n i x at (omega arith))

-- the one of a number, counted from 1, is among those of the numbers between two counts
pub among_between : {A : Type 0} (xs : List A) (before now k : ℕ) (x : A) → (if nat_lt 0 k then slice_get xs (k - 1) else None) ≡ Some x → before < k → k ≤ now
    → IsAmong x (take (now - before) (drop before xs))
among_between xs before now k x at low high =
    let positive : nat_lt 0 k ≡ true = lt-ltb 0 k (omega arith) in
    let there : slice_get xs (k - 1) ≡ Some x = sym (ap (λ (b : Bool). if b then slice_get xs (k - 1) else None) positive) ∙ at in
    let place : before + (k - 1 - before) ≡ k - 1 = omega arith in
    among_take (drop before xs) (now - before) (k - 1 - before) x (got_dropped before xs (k - 1 - before) ∙ (ap (λ (n : ℕ). slice_get xs n) place ∙ there)) (omega arith)

pub get_among : {A : Type 0} (xs : List A) (i : ℕ) (x : A) → slice_get xs i ≡ Some x → IsAmong x xs
get_among [] i x e = absurd (none-some x e)
get_among (y ∷ xs) zero x e = inl (sym (same_Some y x e))
get_among (y ∷ xs) (suc i) x e = inr (get_among xs i x e)
