-- Tests, and what holds whichever way one goes.
use Rattle.std.proofs.Common.{◌≡◌, not, ap, ℕ, ◌<◌, Bool, true, false, ◌&&◌, ◌||◌, ◌==◌, if◌then◌else◌, Option, None, Some, refl, sym, arith, eqb-true}
use Rattle.std.specs.Option.{option_or}
use Rattle.std.proofs.lemmas.Bool.{false≢true}

-- by the value of a test
pub by_test : (P : Bool → Type 0) (test : Bool) → (test ≡ true → P true) → (test ≡ false → P false) → P test
by_test P true hit miss = hit refl
by_test P false hit miss = miss refl

pub by_bool : (b : Bool) (P : Type 0) → (b ≡ true → P) → (b ≡ false → P) → P
by_bool true P f g = f refl
by_bool false P f g = g refl

-- the choice, with what each way knows of the test
pub way_with : {A : Type 0} (b : Bool) (x y : A) (P : A → Type 0) → (b ≡ true → P x) → (b ≡ false → P y) → P (if b then x else y)
way_with true x y P f g = f refl
way_with false x y P f g = g refl

pub by_either : (a b : Bool) (P : Type 0) → (a || b) ≡ true → (a ≡ true → P) → (b ≡ true → P) → P
by_either true b P h left right = left refl
by_either false b P h left right = right h

pub not_both : (test : Bool) → test ≡ true → test ≡ false → ⊥
not_both true hit miss = cc
not_both false hit miss = cc

-- two tests that hold together are one
pub same_test : (a b : Bool) → (a ≡ true → b ≡ true) → (b ≡ true → a ≡ true) → a ≡ b
same_test true true there back = refl
same_test true false there back = sym (there refl)
same_test false true there back = back refl
same_test false false there back = refl

pub or_false : (b : Bool) → (b || false) ≡ b
or_false true = refl
or_false false = refl

pub or_true : (b : Bool) → (b || true) ≡ true
or_true true = refl
or_true false = refl

pub and_true : (b : Bool) → (b && true) ≡ b
and_true true = refl
and_true false = refl

pub and_false : (b : Bool) → (b && false) ≡ false
and_false true = refl
and_false false = refl

pub or_assoc : (a b c : Bool) → (a || (b || c)) ≡ ((a || b) || c)
or_assoc true b c = refl
or_assoc false b c = refl

pub and_left : (a b : Bool) → (a && b) ≡ true → a ≡ true
and_left true b e = refl
and_left false b e = absurd (false≢true e)

pub and_right : (a b : Bool) → (a && b) ≡ true → b ≡ true
and_right true b e = e
and_right false b e = absurd (false≢true e)

pub not_and : (a b : Bool) → b ≡ false → not (a && b) ≡ true
not_and true b e = ap not e
not_and false b e = refl

pub and_four : (a b c d : Bool) → (a && b && c && d) ≡ true → (a ≡ true) × (b ≡ true) × (c ≡ true) × (d ≡ true)
and_four true true true true e = (refl, refl, refl, refl)
and_four true true true false e = absurd (false≢true e)
and_four true true false d e = absurd (false≢true e)
and_four true false c d e = absurd (false≢true e)
and_four false b c d e = absurd (false≢true e)

pub or_none : {A : Type 0} (o : Option A) → option_or o None ≡ o
or_none None = refl
or_none (Some x) = refl

pub same_either : {A : Type 0} (test : Bool) (x : A) → (if test then x else x) ≡ x
same_either true x = refl
same_either false x = refl

pub unequal : (a b : ℕ) → a < b → (b == a) ≡ false
unequal a b less = by_test (λ t. (b == a) ≡ t → t ≡ false) (b == a) (λ hit _. let same : b ≡ a = eqb-true b a hit in absurd (omega (arith, same, less))) (λ _ _. refl) refl

pub unequal_up : (a b : ℕ) → a < b → (a == b) ≡ false
unequal_up a b less = by_test (λ t. (a == b) ≡ t → t ≡ false) (a == b) (λ hit _. let same : a ≡ b = eqb-true a b hit in absurd (omega (arith, same, less))) (λ _ _. refl) refl
