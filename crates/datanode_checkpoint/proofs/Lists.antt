-- Lists of which each element has something.
use Rattle.std.proofs.Common.{◌≡◌, Bool, true, false, ◌||◌, if◌then◌else◌, List, [], ◌∷◌, ◌++◌, length, map, filter, take, drop, set, get_or, not, ℕ, zero, suc, ◌+◌, ◌<◌, ◌≤◌, refl, sym, ◌∙◌, ap, subst, arith, add-one}
use Rattle.std.specs.List.{AllByRecursion, list_any}
use Rattle.std.proofs.lemmas.Bool.{cond-true, cond-false}
use Rattle.std.proofs.lemmas.List.{take_all, length-take}
use Rattle.std.proofs.lemmas.List.Elements.{filter_more}
use Rattle.std.proofs.lemmas.List.Filters.{length-filter_both}

pub by_bool : (b : Bool) (P : Type 0) → ((b ≡ true) → P) → ((b ≡ false) → P) → P
by_bool b P f g = elim b as (λ v. ((v ≡ true) → P) → ((v ≡ false) → P) → P) [ true ↦ λ f g. f refl | false ↦ λ f g. g refl ] f g

pub map_all : {X : Type 0} (P Q : X → Type 0) → ((x : X) → P x → Q x) → (xs : List X) → AllByRecursion P xs → AllByRecursion Q xs
map_all P Q f [] all = tt
map_all P Q f (x ∷ xs) all = (f x all.0, map_all P Q f xs all.1)

pub both_all : {X : Type 0} (P Q : X → Type 0) (xs : List X) → AllByRecursion P xs → AllByRecursion Q xs → AllByRecursion (λ x. P x × Q x) xs
both_all P Q [] p q = tt
both_all P Q (x ∷ xs) p q = ((p.0, q.0), both_all P Q xs p.1 q.1)

pub all_append : {X : Type 0} (P : X → Type 0) (xs ys : List X) → AllByRecursion P xs → AllByRecursion P ys → AllByRecursion P (xs ++ ys)
all_append P [] ys p q = q
all_append P (x ∷ xs) ys p q = (p.0, all_append P xs ys p.1 q)

pub all_mapped : {X Y : Type 0} (f : X → Y) (P : Y → Type 0) (xs : List X) → AllByRecursion (λ x. P (f x)) xs → AllByRecursion P (map f xs)
all_mapped f P [] all = tt
all_mapped f P (x ∷ xs) all = (all.0, all_mapped f P xs all.1)

-- what passes the test has it
pub all_passed : {X : Type 0} (P : X → Type 0) (test : X → Bool) (xs : List X) → AllByRecursion (λ x. test x ≡ true → P x) xs → AllByRecursion P (filter test xs)
all_passed P test [] all = tt
all_passed {X = X} P test (x ∷ xs) all =
    let rest = all_passed P test xs all.1 in
    by_bool (test x) (AllByRecursion P (filter test (x ∷ xs)))
    (λ is. subst (λ (l : List X). AllByRecursion P l) (sym (cond-true (test x) (x ∷ filter test xs) (filter test xs) is)) (all.0 is, rest))
    (λ other. subst (λ (l : List X). AllByRecursion P l) (sym (cond-false (test x) (x ∷ filter test xs) (filter test xs) other)) rest)

each_test : {X : Type 0} (test : X → Bool) (xs : List X) → AllByRecursion (λ x. test x ≡ true → test x ≡ true) xs
each_test test [] = tt
each_test test (x ∷ xs) = (λ is. is, each_test test xs)

pub all_test : {X : Type 0} (test : X → Bool) (xs : List X) → AllByRecursion (λ x. test x ≡ true) (filter test xs)
all_test test xs = all_passed (λ x. test x ≡ true) test xs (each_test test xs)

rest_any : (a b : Bool) (v : Bool) → a ≡ false → (a || b) ≡ v → b ≡ v
rest_any true b v is any = cc
rest_any false b v is any = any

first_any : (a b : Bool) → a ≡ true → (a || b) ≡ false → ⊥
first_any true b is any = cc
first_any false b is any = cc

pub none_passes : {X : Type 0} (test : X → Bool) (xs : List X) → list_any test xs ≡ false → filter test xs ≡ []
none_passes test [] none = refl
none_passes test (x ∷ xs) none =
    by_bool (test x) (filter test (x ∷ xs) ≡ [])
    (λ is. absurd (first_any (test x) (list_any test xs) is none))
    (λ other. cond-false (test x) (x ∷ filter test xs) (filter test xs) other ∙ none_passes test xs (rest_any (test x) (list_any test xs) false other none))

pub one_passes : {X : Type 0} (test : X → Bool) (xs : List X) → list_any test xs ≡ true → 0 < length (filter test xs)
one_passes test [] some = cc
one_passes {X = X} test (x ∷ xs) some =
    by_bool (test x) (0 < length (filter test (x ∷ xs)))
    (λ is. subst (λ (l : List X). 0 < length l) (sym (cond-true (test x) (x ∷ filter test xs) (filter test xs) is)) (omega arith))
    (λ other. subst (λ (l : List X). 0 < length l) (sym (cond-false (test x) (x ∷ filter test xs) (filter test xs) other)) (one_passes test xs (rest_any (test x) (list_any test xs) true other some)))

-- ---- the next element

drop_suc : {X : Type 0} (xs : List X) (i : ℕ) (x : X) → i < length xs → x ≡ get_or xs i x → drop i xs ≡ x ∷ drop (suc i) xs
drop_suc [] i x inside is = absurd (omega (arith, inside))
drop_suc (y ∷ xs) zero x inside is = ap (λ z. z ∷ xs) (sym is)
drop_suc (y ∷ xs) (suc i) x inside is = drop_suc xs i x (omega (arith, inside)) is

pub drop_next : {X : Type 0} (xs : List X) (i : ℕ) (x : X) → i < length xs → x ≡ get_or xs i x → drop i xs ≡ x ∷ drop (i + 1) xs
drop_next xs i x inside is = drop_suc xs i x inside is ∙ ap (λ n. x ∷ drop n xs) (sym (add-one i))

take_suc : {X : Type 0} (xs : List X) (i : ℕ) (x : X) → i < length xs → x ≡ get_or xs i x → take (suc i) xs ≡ take i xs ++ x ∷ []
take_suc [] i x inside is = absurd (omega (arith, inside))
take_suc (y ∷ xs) zero x inside is = ap (λ z. z ∷ []) (sym is)
take_suc (y ∷ xs) (suc i) x inside is = ap (λ l. y ∷ l) (take_suc xs i x (omega (arith, inside)) is)

pub take_next : {X : Type 0} (xs : List X) (i : ℕ) (x : X) → i < length xs → x ≡ get_or xs i x → take (i + 1) xs ≡ take i xs ++ x ∷ []
take_next xs i x inside is = ap (λ n. take n xs) (add-one i) ∙ take_suc xs i x inside is

pub set_past : {X : Type 0} (xs : List X) (i : ℕ) (v : X) → length xs ≤ i → set xs i v ≡ xs
set_past [] i v past = refl
set_past (x ∷ xs) zero v past = absurd (omega (arith, past))
set_past (x ∷ xs) (suc i) v past = ap (λ l. x ∷ l) (set_past xs i v (omega (arith, past)))

map_append : {X Y : Type 0} (f : X → Y) (xs ys : List X) → map f (xs ++ ys) ≡ map f xs ++ map f ys
map_append f [] ys = refl
map_append f (x ∷ xs) ys = ap (λ l. f x ∷ l) (map_append f xs ys)

map_cond : {X Y : Type 0} (f : X → Y) (b : Bool) (x : X) → map f (if b then x ∷ [] else []) ≡ (if b then f x ∷ [] else [])
map_cond f true x = refl
map_cond f false x = refl

-- what passes among the first ones, and then among these and the next
pub mapped_next : {X Y : Type 0} (f : X → Y) (p : X → Bool) (xs : List X) (i : ℕ) (x : X) (so_far next : List Y) → i < length xs → x ≡ get_or xs i x
    → so_far ≡ map f (filter p (take i xs)) → next ≡ so_far ++ (if p x then f x ∷ [] else []) → next ≡ map f (filter p (take (i + 1) xs))
mapped_next {X = X} f p xs i x so_far next inside is known step =
    let more : filter p (take (i + 1) xs) ≡ filter p (take i xs) ++ (if p x then x ∷ [] else []) = filter_more p xs i x inside ∙ ap (λ (y : X). filter p (take i xs) ++ (if p y then y ∷ [] else [])) (sym is) in
    step ∙ ap (λ l. l ++ (if p x then f x ∷ [] else [])) known ∙ ap (λ l. map f (filter p (take i xs)) ++ l) (sym (map_cond f (p x) x)) ∙ sym (map_append f (filter p (take i xs)) (if p x then x ∷ [] else [])) ∙ ap (λ l. map f l) (sym more)

pub mapped_end : {X Y : Type 0} (f : X → Y) (p : X → Bool) (xs : List X) (i : ℕ) (so_far : List Y) → length xs ≤ i → so_far ≡ map f (filter p (take i xs)) → so_far ≡ map f (filter p xs)
mapped_end f p xs i so_far end known = known ∙ ap (λ l. map f (filter p l)) (take_all i xs end)

pub filter_short : {X : Type 0} (p : X → Bool) (xs : List X) (i : ℕ) → length (filter p (take i xs)) ≤ i
filter_short p xs i = omega (arith, length-filter_both p (λ x. not (p x)) (λ x. refl) (take i xs), length-take i xs)
