-- A strike at its place, and the places of all questions.
use Rattle.std.proofs.Common.{◌≡◌, ◌∙◌, ℕ, zero, suc, ◌+◌, ◌<◌, ◌≤◌, ◌==◌, Bool, true, false, if◌then◌else◌, List, [], ◌∷◌, ◌++◌, length, slice_get, slice_set, unwrap_or, Option, Some, None, refl, sym, ap, arith, ne_eqb}
use Rattle.std.proofs.lemmas.Bool.{cond_both, eq-eqb}
use Rattle.std.specs.List.{AllByRecursion, filter}
use Rattle.std.specs.Option.{option_or, option_map_or}
use Rattle.std.specs.Prelude.{map}
use Rattle.salus_types.specs.Volume.{Shape}
use Rattle.salus_types.specs.declared.strike.Strike.{Strike}
use Rattle.salus_message.specs.declared.replies.Answer.{Answer}
use Rattle.client_rules.specs.State.{Open}
use Rattle.client_rules.specs.Tables.{answers, struck, struck_from, struck_at, closed_at}
use Rattle.verified_read.specs.Table.{HavePlaces}

or_none : {A : Type 0} (o : Option A) → option_or o None ≡ o
or_none None = refl
or_none (Some x) = refl

-- the places of the replicas behind it stay
struck-behind : (i by : ℕ) (s : Strike) (os : List (Option Strike)) → by < i → struck_from i by s os ≡ os
unfolding struck_from
struck-behind i by s [] less = refl
struck-behind i by s (o ∷ os) less =
    let test : (by == i) ≡ false = ne_eqb by i (λ e. omega (arith, e, less)) in
    (λ j. option_or o (if test j then Some s else None) ∷ struck-behind (i + 1) by s os (omega (arith, less)) j)
    ∙ ap (λ x. x ∷ os) (or_none o)

-- the k-th place from here is that of replica i + k
struck-place : (i by k : ℕ) (s : Strike) (os : List (Option Strike)) → by ≡ i + k
    → struck_from i by s os ≡ option_map_or (λ o. slice_set os k (option_or o (Some s))) (slice_get os k) os
unfolding struck_from
struck-place i by k s [] e = refl
struck-place i by zero s (o ∷ os) e =
    let test : (by == i) ≡ true = eq-eqb by i (omega (arith, e)) in
    λ j. option_or o (if test j then Some s else None) ∷ struck-behind (i + 1) by s os (omega (arith, e)) j
struck-place i by (suc k) s (o ∷ os) e =
    let test : (by == i) ≡ false = ne_eqb by i (λ same. omega (arith, e, same)) in
    (λ j. option_or o (if test j then Some s else None) ∷ struck-place (i + 1) by k s os (omega (arith, e)) j)
    ∙ (λ j. or_none o j ∷ option_map_or (λ x. slice_set os k (option_or x (Some s))) (slice_get os k) os)
    ∙ further o (slice_get os k)
  where
    further : (o : Option Strike) (x : Option (Option Strike)) → o ∷ option_map_or (λ x. slice_set os k (option_or x (Some s))) x os ≡ option_map_or (λ x. slice_set (o ∷ os) (suc k) (option_or x (Some s))) x (o ∷ os)
    further o None = refl
    further o (Some x) = refl

set_same : {A : Type 0} (xs : List A) (k : ℕ) (x : A) → slice_get xs k ≡ Some x → slice_set xs k x ≡ xs
set_same [] k x e = refl
set_same (y ∷ xs) zero x e = ap (λ o. unwrap_or o y ∷ xs) (sym e)
set_same (y ∷ xs) (suc k) x e = ap (λ l. y ∷ l) (set_same xs k x e)

-- a strike at a place that is free, at one that has a strike, and at none
pub struck-free : (k : ℕ) (s : Strike) (os : List (Option Strike)) → Some None ≡ slice_get os k → slice_set os k (Some s) ≡ struck_from 0 k s os
struck-free k s os e = ap (λ o. option_map_or (λ x. slice_set os k (option_or x (Some s))) o os) e ∙ sym (struck-place 0 k k s os (omega arith))

pub struck-kept : (k : ℕ) (s t : Strike) (os : List (Option Strike)) → Some (Some t) ≡ slice_get os k → os ≡ struck_from 0 k s os
struck-kept k s t os e =
    sym (set_same os k (Some t) (sym e)) ∙ ap (λ o. option_map_or (λ x. slice_set os k (option_or x (Some s))) o os) e ∙ sym (struck-place 0 k k s os (omega arith))

pub struck-none : (k : ℕ) (s : Strike) (os : List (Option Strike)) → None ≡ slice_get os k → os ≡ struck_from 0 k s os
struck-none k s os e = ap (λ o. option_map_or (λ x. slice_set os k (option_or x (Some s))) o os) e ∙ sym (struck-place 0 k k s os (omega arith))

length-struck : (i by : ℕ) (s : Strike) (os : List (Option Strike)) → length (struck_from i by s os) ≡ length os
unfolding struck_from
length-struck i by s [] = refl
length-struck i by s (o ∷ os) = ap suc (length-struck (i + 1) by s os)

pub all_filter : {A : Type 0} (P : A → Type 0) (test : A → Bool) (xs : List A) → AllByRecursion P xs → AllByRecursion P (filter test xs)
all_filter P test [] all = tt
all_filter P test (x ∷ xs) all = cond_both (test x) _ _ (AllByRecursion P) (λ _. (all.0, all_filter P test xs all.1)) (λ _. all_filter P test xs all.1)

pub places-push : (shape : Shape) (asked : List Open) (o : Open) → HavePlaces shape asked → length o.strikes ≡ shape.replicas → HavePlaces shape (asked ++ o ∷ [])
places-push shape [] o all one = (one, tt)
places-push shape (x ∷ asked) o all one = (all.0, places-push shape asked o all.1 one)

pub places-struck : (shape : Shape) (a : Answer) (by : ℕ) (s : Strike) (asked : List Open) → HavePlaces shape asked → HavePlaces shape (struck_at a by s asked)
places-struck shape a by s [] all = tt
places-struck shape a by s (o ∷ asked) all =
    (cond_both (answers a o) _ _ (λ (x : Open). length x.strikes ≡ shape.replicas) (λ _. length-struck 0 by s o.strikes ∙ all.0) (λ _. all.0), places-struck shape a by s asked all.1)
