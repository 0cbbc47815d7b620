-- Lists that are filtered, found in and turned round, as images read them.
use Rattle.std.proofs.Common.{◌≡◌, ◌∙◌, ◌⊎◌, inl, inr, ⊎_elim, ℕ, ◌≤◌, ◌&&◌, nat_lt, Bool, true, false, cond, if◌then◌else◌, List, [], ◌∷◌, ◌++◌, length, map, Some, refl, sym, ap, subst, arith}
use Rattle.std.specs.Prelude.{filter, find, reverse}
use Rattle.std.specs.List.{AllByRecursion}
use Rattle.std.proofs.lemmas.List.{append-nil, reverse-append}
use Rattle.merkle_region.specs.Tree.{IsAmong}
use Rattle.law_prefix.specs.Numbers.{Mem}
use Rattle.law_prefix.specs.Steps.{above}

pub and_both : (a b : Bool) → a ≡ true → b ≡ true → (a && b) ≡ true
and_both true b e f = f
and_both false b e f = absurd (cc)

pub mem_among : {A : Type 0} (x : A) (xs : List A) → IsAmong x xs → Mem x xs
mem_among x [] at = at
mem_among x (y ∷ ys) at = ⊎_elim (λ (e : x ≡ y). inl e) (λ (m : IsAmong x ys). inr (mem_among x ys m)) at

pub mem_left : {A : Type 0} (x : A) (xs ys : List A) → Mem x xs → Mem x (xs ++ ys)
mem_left x [] ys at = absurd at
mem_left x (z ∷ xs) ys at = ⊎_elim (λ (e : x ≡ z). inl e) (λ (m : Mem x xs). inr (mem_left x xs ys m)) at

pub mem_right : {A : Type 0} (x : A) (xs ys : List A) → Mem x ys → Mem x (xs ++ ys)
mem_right x [] ys at = at
mem_right x (z ∷ xs) ys at = inr (mem_right x xs ys at)

pub mem_split : {A : Type 0} (x : A) (xs ys : List A) → Mem x (xs ++ ys) → Mem x xs ⊎ Mem x ys
mem_split x [] ys at = inr at
mem_split x (z ∷ xs) ys at =
    ⊎_elim (λ (e : x ≡ z). inl (inl e)) (λ (m : Mem x (xs ++ ys)). ⊎_elim (λ (l : Mem x xs). inl (inr l)) (λ (r : Mem x ys). inr r) (mem_split x xs ys m)) at

pub mem_map : {A B : Type 0} (f : A → B) (x : A) (xs : List A) → Mem x xs → Mem (f x) (map f xs)
mem_map f x [] at = at
mem_map f x (y ∷ xs) at = ⊎_elim (λ (e : x ≡ y). inl (ap f e)) (λ (m : Mem x xs). inr (mem_map f x xs m)) at

reverse_first : {A : Type 0} (x : A) (xs : List A) → reverse (x ∷ xs) ≡ reverse xs ++ x ∷ []
reverse_first x xs = reverse-append (x ∷ []) xs

pub mem_reverse : {A : Type 0} (x : A) (xs : List A) → Mem x xs → Mem x (reverse xs)
mem_reverse x [] at = absurd at
mem_reverse x (y ∷ xs) at =
    subst (λ l. Mem x l) (sym (reverse_first y xs))
    (⊎_elim (λ (e : x ≡ y). mem_right x (reverse xs) (y ∷ []) (inl e)) (λ (m : Mem x xs). mem_left x (reverse xs) (y ∷ []) (mem_reverse x xs m)) at)

abbrev head_or : {A : Type 0} → A → List A → A
head_or d [] = d
head_or d (z ∷ zs) = z

-- what passes first is found
pub find_filter : {A : Type 0} (t : A → Bool) (xs : List A) (y : A) (ys : List A) → filter t xs ≡ y ∷ ys → find t xs ≡ Some y
find_filter t [] y ys e = absurd (none_first y ys e) where
  none_first : {A : Type 0} (y : A) (ys : List A) → [] ≡ y ∷ ys → ⊥
  none_first {A = A} y ys e = let h : length {A = A} [] ≡ length (y ∷ ys) = ap (λ l. length l) e in omega arith
find_filter t (x ∷ xs) y ys e =
    (elim (t x) as (λ b. (if b then x ∷ filter t xs else filter t xs) ≡ y ∷ ys → (if b then Some x else find t xs) ≡ Some y) [
      | true ↦ λ (same : x ∷ filter t xs ≡ y ∷ ys). ap (λ l. Some (head_or x l)) same
      | false ↦ λ (same : filter t xs ≡ y ∷ ys). find_filter t xs y ys same
    ]) e

pub filter_alike : {A : Type 0} (t u : A → Bool) (xs : List A) → AllByRecursion (λ x. t x ≡ u x) xs → filter t xs ≡ filter u xs
filter_alike t u [] all = refl
filter_alike t u (x ∷ xs) all = ap (λ b. if b then x ∷ filter t xs else filter t xs) all.0 ∙ ap (λ l. if u x then x ∷ l else l) (filter_alike t u xs all.1)

pub filter_all : {A : Type 0} (t : A → Bool) (xs : List A) → AllByRecursion (λ x. t x ≡ true) xs → filter t xs ≡ xs
filter_all t [] all = refl
filter_all t (x ∷ xs) all = ap (λ b. if b then x ∷ filter t xs else filter t xs) all.0 ∙ ap (λ l. x ∷ l) (filter_all t xs all.1)

pub filter_none : {A : Type 0} (t : A → Bool) (xs : List A) → AllByRecursion (λ x. t x ≡ false) xs → filter t xs ≡ []
filter_none t [] all = refl
filter_none t (x ∷ xs) all = ap (λ b. if b then x ∷ filter t xs else filter t xs) all.0 ∙ filter_none t xs all.1

grown_one : {A : Type 0} (a : Bool) (x : A) (xs ys : List A) → length xs ≤ length ys → length (if a then x ∷ xs else xs) ≤ length (if a then x ∷ ys else ys)
grown_one true x xs ys less = omega arith
grown_one false x xs ys less = less

one_more : {A : Type 0} (a : Bool) (x : A) (xs ys : List A) → length xs ≤ length ys → length xs ≤ length (if a then x ∷ ys else ys)
one_more true x xs ys less = omega arith
one_more false x xs ys less = less

-- what also passes another test is no more
pub filter_fewer : {A : Type 0} (t u : A → Bool) (xs : List A) → length (filter t (filter u xs)) ≤ length (filter t xs)
filter_fewer t u [] = omega arith
filter_fewer t u (x ∷ xs) =
    let rest : length (filter t (filter u xs)) ≤ length (filter t xs) = filter_fewer t u xs in
    elim (u x) as (λ b. length (filter t (if b then x ∷ filter u xs else filter u xs)) ≤ length (filter t (x ∷ xs))) [
      | true ↦ grown_one (t x) x (filter t (filter u xs)) (filter t xs) rest
      | false ↦ one_more (t x) x (filter t (filter u xs)) (filter t xs) rest
    ]

-- the sessions above another, of those in reverse order
above_append : (e : ℕ) (xs ys : List ℕ) → above e (xs ++ ys) ≡ above e xs ++ above e ys
unfolding above
above_append e [] ys = refl
above_append e (x ∷ xs) ys =
    elim (nat_lt e x) as (λ b. cond b (x ∷ above e (xs ++ ys)) (above e (xs ++ ys)) ≡ cond b (x ∷ above e xs) (above e xs) ++ above e ys) [
      | true ↦ ap (λ l. x ∷ l) (above_append e xs ys)
      | false ↦ above_append e xs ys
    ]

pub above_reverse : (e : ℕ) (xs : List ℕ) → above e (reverse xs) ≡ reverse (above e xs)
unfolding above
above_reverse e [] = refl
above_reverse e (x ∷ xs) =
    let last : reverse (above e xs) ++ cond (nat_lt e x) (x ∷ []) [] ≡ reverse (cond (nat_lt e x) (x ∷ above e xs) (above e xs)) =
    elim (nat_lt e x) as (λ b. reverse (above e xs) ++ cond b (x ∷ []) [] ≡ reverse (cond b (x ∷ above e xs) (above e xs))) [
      | true ↦ sym (reverse_first x (above e xs))
      | false ↦ append-nil (reverse (above e xs))
    ] in
    ap (λ l. above e l) (reverse_first x xs) ∙ above_append e (reverse xs) (x ∷ []) ∙ ap (λ l. l ++ above e (x ∷ [])) (above_reverse e xs) ∙ last
