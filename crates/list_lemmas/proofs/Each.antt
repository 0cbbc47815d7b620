-- What holds of all elements, and of a value that may be there.
use Rattle.std.proofs.Common.{◌≡◌, ℕ, zero, suc, ◌+◌, ◌<◌, ◌≤◌, refl, arith, Bool, true, false, if◌then◌else◌, List, [], ◌∷◌, ◌++◌, map, Option, None, Some}
use Rattle.std.specs.Prelude.{filter, find, flat_map, replicate}
use Rattle.std.specs.Option.{option_map_or}
use Rattle.std.specs.List.{AllByRecursion, range_with_len}

-- what holds of both values holds of the choice
pub either_way : {A : Type 0} (b : Bool) (x y : A) (P : A → Type 0) → P x → P y → P (if b then x else y)
either_way true x y P px py = px
either_way false x y P px py = py

pub all_both : {A : Type 0} (P : A → Type 0) (xs ys : List A) → AllByRecursion P xs → AllByRecursion P ys → AllByRecursion P (xs ++ ys)
all_both P [] ys front back = back
all_both P (x ∷ xs) ys front back = (front.0, all_both P xs ys front.1 back)

pub all_split : {A : Type 0} (P : A → Type 0) (xs ys : List A) → AllByRecursion P (xs ++ ys) → AllByRecursion P xs × AllByRecursion P ys
all_split P [] ys all = (tt, all)
all_split P (x ∷ xs) ys all = let rest = all_split P xs ys all.1 in ((all.0, rest.0), rest.1)

pub all_filter : {A : Type 0} (P : A → Type 0) (test : A → Bool) (xs : List A) → AllByRecursion P xs → AllByRecursion P (filter test xs)
all_filter P test [] all = tt
all_filter P test (x ∷ xs) all =
    let rest : AllByRecursion P (filter test xs) = all_filter P test xs all.1 in
    either_way (test x) (x ∷ filter test xs) (filter test xs) (λ l. AllByRecursion P l) (all.0, rest) rest

pub all_map : {A B : Type 0} (P : B → Type 0) (f : A → B) (xs : List A) → AllByRecursion (λ x. P (f x)) xs → AllByRecursion P (map f xs)
all_map P f [] all = tt
all_map P f (x ∷ xs) all = (all.0, all_map P f xs all.1)

pub all_then : {A : Type 0} (P Q : A → Type 0) → ((x : A) → P x → Q x) → (xs : List A) → AllByRecursion P xs → AllByRecursion Q xs
all_then P Q f [] all = tt
all_then P Q f (x ∷ xs) all = (f x all.0, all_then P Q f xs all.1)

-- it holds of the value, if there is one
abbrev pub OfSome : {A : Type 0} → (A → Type 0) → Option A → Type 0
OfSome P None = Unit {0}
OfSome P (Some x) = P x

pub found_of_all : {A : Type 0} (P : A → Type 0) (test : A → Bool) (xs : List A) → AllByRecursion P xs → OfSome P (find test xs)
found_of_all P test [] all = tt
found_of_all P test (x ∷ xs) all = either_way (test x) (Some x) (find test xs) (λ o. OfSome P o) all.0 (found_of_all P test xs all.1)

-- what holds of what a value gives, and of what stands for none, holds of the choice
pub some_way : {A B : Type 0} (Q : A → Type 0) (P : B → Type 0) (f : A → B) (d : B) (o : Option A) → OfSome Q o → ((x : A) → Q x → P (f x)) → P d → P (option_map_or f o d)
some_way Q P f d None q some none = none
some_way Q P f d (Some x) q some none = some x q

pub any_way : {A B : Type 0} (P : B → Type 0) (f : A → B) (d : B) (o : Option A) → ((x : A) → P (f x)) → P d → P (option_map_or f o d)
any_way P f d None some none = none
any_way P f d (Some x) some none = some x

pub all_each : {A : Type 0} (P : A → Type 0) (xs : List A) → ((x : A) → P x) → AllByRecursion P xs
all_each P [] f = tt
all_each P (x ∷ xs) f = (f x, all_each P xs f)

pub all_flat : {A B : Type 0} (P : B → Type 0) (f : A → List B) (xs : List A) → ((x : A) → AllByRecursion P (f x)) → AllByRecursion P (flat_map f xs)
all_flat P f [] all = tt
all_flat P f (x ∷ xs) all = all_both P (f x) (flat_map f xs) (all x) (all_flat P f xs all)

-- what passes a test
pub all_pass : {A : Type 0} (test : A → Bool) (xs : List A) → AllByRecursion (λ x. test x ≡ true) (filter test xs)
all_pass test [] = tt
all_pass test (x ∷ xs) = elim (test x) as (λ b. test x ≡ b → AllByRecursion (λ y. test y ≡ true) (if b then x ∷ filter test xs else filter test xs)) [
  | true ↦ λ e. (e, all_pass test xs)
  | false ↦ λ e. all_pass test xs
] refl

pub all_zip : {A : Type 0} (P Q : A → Type 0) (xs : List A) → AllByRecursion P xs → AllByRecursion Q xs → AllByRecursion (λ x. P x × Q x) xs
all_zip P Q [] p q = tt
all_zip P Q (x ∷ xs) p q = ((p.0, q.0), all_zip P Q xs p.1 q.1)

pub flat_of_all : {A B : Type 0} (P : B → Type 0) (f : A → List B) (xs : List A) → AllByRecursion (λ x. AllByRecursion P (f x)) xs → AllByRecursion P (flat_map f xs)
flat_of_all P f [] all = tt
flat_of_all P f (x ∷ xs) all = all_both P (f x) (flat_map f xs) all.0 (flat_of_all P f xs all.1)

pub each_replicate : {A : Type 0} (P : A → Type 0) (n : ℕ) (x : A) → P x → AllByRecursion P (replicate n x)
each_replicate P zero x p = tt
each_replicate P (suc n) x p = (p, each_replicate P n x p)

pub each_below : (top a n : ℕ) → a + n ≤ top → AllByRecursion (λ i. i < top) (range_with_len a n)
each_below top a zero le = tt
each_below top a (suc n) le = (omega arith, each_below top (a + 1) n (omega arith))
