-- A region's number: its bounds, that it never falls, and what one batch more does to it.
use Rattle.std.proofs.Common.{◌≡◌, ℕ, zero, suc, ◌≤◌, ◌<◌, max, true, false, List, [], ◌∷◌, ◌++◌, length, refl, sym, ap, arith, le_refl, le_trans, subst, ⊎_elim, eq-or-lt_of_le}
use Rattle.std.proofs.lemmas.Bool.{cond_both, cond-true, cond-false}
use Rattle.law_prefix.specs.Numbers.{touches, last, number}

pub last_bound : (bs : List (List ℕ)) (s g : ℕ) → last bs s g ≤ s
unfolding last
last_bound bs zero g = le_refl zero
last_bound bs (suc s) g =
    cond_both {A = ℕ} (touches bs s g) (suc s) (last bs s g) (λ x. x ≤ suc s) (λ t. le_refl (suc s))
    (λ t. let h : last bs s g ≤ s = last_bound bs s g in omega arith)

pub last_step : (bs : List (List ℕ)) (s g : ℕ) → last bs s g ≤ last bs (suc s) g
unfolding last
last_step bs s g =
    cond_both {A = ℕ} (touches bs s g) (suc s) (last bs s g) (λ x. last bs s g ≤ x)
    (λ t. let h : last bs s g ≤ s = last_bound bs s g in omega arith)
    (λ t. le_refl (last bs s g))

pub last_touched : (bs : List (List ℕ)) (s g : ℕ) → touches bs s g ≡ true → last bs (suc s) g ≡ suc s
unfolding last
last_touched bs s g t = cond-true (touches bs s g) (suc s) (last bs s g) t

pub last_untouched : (bs : List (List ℕ)) (s g : ℕ) → touches bs s g ≡ false → last bs (suc s) g ≡ last bs s g
unfolding last
last_untouched bs s g t = cond-false (touches bs s g) (suc s) (last bs s g) t

pub last_more : (bs : List (List ℕ)) (s t g : ℕ) → s ≤ t → last bs s g ≤ last bs t g
last_more bs s zero g h = subst (λ x. last bs x g ≤ last bs zero g) (omega arith) (le_refl (last bs zero g))
last_more bs s (suc t) g h =
    ⊎_elim
    (λ (e : s ≡ suc t). subst (λ x. last bs x g ≤ last bs (suc t) g) (sym e) (le_refl (last bs (suc t) g)))
    (λ (l : s < suc t). let u : s ≤ t = omega arith in le_trans (last_more bs s t g u) (last_step bs t g))
    (eq-or-lt_of_le h)

-- batches that were submitted later change nothing
pub touches_front : (bs more : List (List ℕ)) (i g : ℕ) → i < length bs → touches (bs ++ more) i g ≡ touches bs i g
unfolding touches
touches_front [] more i g h = absurd (omega arith)
touches_front (b ∷ bs) more zero g h = refl
touches_front (b ∷ bs) more (suc i) g h = let l : i < length bs = omega arith in touches_front bs more i g l

pub last_front : (bs more : List (List ℕ)) (s g : ℕ) → s ≤ length bs → last (bs ++ more) s g ≡ last bs s g
unfolding last
last_front bs more zero g h = refl
last_front bs more (suc s) g h =
    let l : s < length bs = omega arith in
    let m : s ≤ length bs = omega arith in
    let e : touches (bs ++ more) s g ≡ touches bs s g = touches_front bs more s g l in
    let f : last (bs ++ more) s g ≡ last bs s g = last_front bs more s g m in
    rw (e, f) refl

pub number_more : (bs : List (List ℕ)) (n s t g : ℕ) → s ≤ t → number bs n s g ≤ number bs n t g
number_more bs n s t g h = let m : last bs s g ≤ last bs t g = last_more bs s t g h in omega arith

pub number_bound : (bs : List (List ℕ)) (n s g : ℕ) → n ≤ s → number bs n s g ≤ s
number_bound bs n s g h = let m : last bs s g ≤ s = last_bound bs s g in omega arith

pub number_start : (bs : List (List ℕ)) (n g : ℕ) → number bs n n g ≡ n
number_start bs n g = let m : last bs n g ≤ n = last_bound bs n g in omega arith

pub number_touched : (bs : List (List ℕ)) (n s g : ℕ) → n ≤ s → touches bs s g ≡ true → number bs n (suc s) g ≡ suc s
number_touched bs n s g h t = let e : last bs (suc s) g ≡ suc s = last_touched bs s g t in omega arith

pub number_untouched : (bs : List (List ℕ)) (n s g : ℕ) → touches bs s g ≡ false → number bs n (suc s) g ≡ number bs n s g
number_untouched bs n s g t = ap (max n) (last_untouched bs s g t)

pub number_front : (bs more : List (List ℕ)) (n s g : ℕ) → s ≤ length bs → number (bs ++ more) n s g ≡ number bs n s g
number_front bs more n s g h = ap (max n) (last_front bs more s g h)
