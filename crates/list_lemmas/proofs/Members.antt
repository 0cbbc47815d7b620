-- Members of lists that are made of others.
use Rattle.std.proofs.Common.{◌≡◌, ℕ, zero, suc, ◌+◌, ◌<◌, ◌≤◌, Bool, true, false, cond, List, [], ◌∷◌, map, Option, None, Some, inl, inr, refl, ap, sym, subst, ◌∙◌, arith}
use Rattle.std.specs.Prelude.{filter, find, flat_map}
use Rattle.std.specs.List.{list_any, AllByRecursion, range_with_len}
use Rattle.std.proofs.lemmas.Bool.{cases_eq, or_cases, or_left, or_right, false≢true}
use Rattle.std.proofs.lemmas.Option.{none-some, same_Some}
use Rattle.merkle_region.specs.Tree.{IsAmong}
use Rattle.merkle_region.proofs.Membership.{among_left, among_right, among_either}
use Rattle.list_lemmas.proofs.Each.{OfSome}
use Rattle.list_lemmas.proofs.Tests.{way_with}

module _ {A : Type 0} where
  pub among_all : (P : A → Type 0) (xs : List A) (x : A) → IsAmong x xs → AllByRecursion P xs → P x
  among_all P [] x m each = absurd m
  among_all P (y ∷ xs) x (inl e) each = subst P (sym e) each.0
  among_all P (y ∷ xs) x (inr m) each = among_all P xs x m each.1

  pub all_among : (P : A → Type 0) (xs : List A) → ((x : A) → IsAmong x xs → P x) → AllByRecursion P xs
  all_among P [] given = tt
  all_among P (y ∷ xs) given = (given y (inl refl), all_among P xs (λ x m. given x (inr m)))

  filter_cons : (test : A → Bool) (x y : A) (xs : List A) (t : Bool) → test y ≡ t
      → (IsAmong x (filter test xs) → IsAmong x xs × (test x ≡ true))
      → IsAmong x (cond t (y ∷ filter test xs) (filter test xs)) → IsAmong x (y ∷ xs) × (test x ≡ true)
  filter_cons test x y xs true is rest (inl e) = (inl e, ap test e ∙ is)
  filter_cons test x y xs true is rest (inr m) = (inr (rest m).0, (rest m).1)
  filter_cons test x y xs false is rest m = (inr (rest m).0, (rest m).1)

  pub among_filter : (test : A → Bool) (x : A) (xs : List A) → IsAmong x (filter test xs) → IsAmong x xs × (test x ≡ true)
  among_filter test x [] m = absurd m
  among_filter test x (y ∷ xs) m = filter_cons test x y xs (test y) refl (among_filter test x xs) m

  filter_in_cons : (test : A → Bool) (x y : A) (xs : List A) (t : Bool) → test y ≡ t → test x ≡ true
      → (IsAmong x xs → IsAmong x (filter test xs)) → IsAmong x (y ∷ xs) → IsAmong x (cond t (y ∷ filter test xs) (filter test xs))
  filter_in_cons test x y xs true is good rest (inl e) = inl e
  filter_in_cons test x y xs false is good rest (inl e) = absurd (false≢true (sym is ∙ (sym (ap test e) ∙ good)))
  filter_in_cons test x y xs true is good rest (inr m) = inr (rest m)
  filter_in_cons test x y xs false is good rest (inr m) = rest m

  pub among_filter-in : (test : A → Bool) (xs : List A) (x : A) → IsAmong x xs → test x ≡ true → IsAmong x (filter test xs)
  among_filter-in test [] x m good = absurd m
  among_filter-in test (y ∷ xs) x m good = filter_in_cons test x y xs (test y) refl good (λ i. among_filter-in test xs x i good) m

  find_cons : (test : A → Bool) (x y : A) (xs : List A) (t : Bool) → test y ≡ t
      → (find test xs ≡ Some x → IsAmong x xs × (test x ≡ true))
      → cond t (Some y) (find test xs) ≡ Some x → IsAmong x (y ∷ xs) × (test x ≡ true)
  find_cons test x y xs true is rest e =
      let same : x ≡ y = sym (same_Some y x e) in (inl same, ap test same ∙ is)
  find_cons test x y xs false is rest e = (inr (rest e).0, (rest e).1)

  pub find_among : (test : A → Bool) (x : A) (xs : List A) → find test xs ≡ Some x → IsAmong x xs × (test x ≡ true)
  find_among test x [] e = absurd (none-some x e)
  find_among test x (y ∷ xs) e = find_cons test x y xs (test y) refl (find_among test x xs) e

  pub any_among : (test : A → Bool) (xs : List A) → list_any test xs ≡ true → (x : A) × IsAmong x xs × (test x ≡ true)
  any_among test [] e = absurd (false≢true e)
  any_among test (y ∷ xs) e = elim (or_cases (test y) (list_any test xs) e) [
    | inl here ↦ (y, inl refl, here)
    | inr later ↦ let rest = any_among test xs later in (rest.0, inr rest.1, rest.2)
  ]

  pub any_from : (test : A → Bool) (x : A) (xs : List A) → IsAmong x xs → test x ≡ true → list_any test xs ≡ true
  any_from test x [] m good = absurd m
  any_from test x (y ∷ xs) (inl e) good = or_left (test y) (list_any test xs) (sym (ap test e) ∙ good)
  any_from test x (y ∷ xs) (inr m) good = or_right (test y) (list_any test xs) (any_from test x xs m good)

module _ {A B : Type 0} where
  pub among_map : (f : A → B) (y : B) (xs : List A) → IsAmong y (map f xs) → (x : A) × IsAmong x xs × (y ≡ f x)
  among_map f y [] m = absurd m
  among_map f y (x ∷ xs) (inl e) = (x, inl refl, e)
  among_map f y (x ∷ xs) (inr m) = let rest = among_map f y xs m in (rest.0, inr rest.1, rest.2)

  pub among_map-in : (f : A → B) (xs : List A) (x : A) → IsAmong x xs → IsAmong (f x) (map f xs)
  among_map-in f [] x m = absurd m
  among_map-in f (y ∷ xs) x (inl e) = inl (ap f e)
  among_map-in f (y ∷ xs) x (inr m) = inr (among_map-in f xs x m)

  pub among_flat_map : (f : A → List B) (y : B) (xs : List A) → IsAmong y (flat_map f xs) → (x : A) × IsAmong x xs × IsAmong y (f x)
  among_flat_map f y [] m = absurd m
  among_flat_map f y (x ∷ xs) m = elim (among_either y (f x) (flat_map f xs) m) [
    | inl here ↦ (x, inl refl, here)
    | inr later ↦ let rest = among_flat_map f y xs later in (rest.0, inr rest.1, rest.2)
  ]

  pub among_flat_map-in : (f : A → List B) (x : A) (y : B) (xs : List A) → IsAmong x xs → IsAmong y (f x) → IsAmong y (flat_map f xs)
  among_flat_map-in f x y [] m n = absurd m
  among_flat_map-in f x y (z ∷ xs) (inl e) n = among_left y (f z) (flat_map f xs) (subst (λ w. IsAmong y (f w)) e n)
  among_flat_map-in f x y (z ∷ xs) (inr m) n = among_right y (f z) (flat_map f xs) (among_flat_map-in f x y xs m n)

pub found_among : {A : Type 0} (test : A → Bool) (xs : List A) → OfSome (λ x. IsAmong x xs × (test x ≡ true)) (find test xs)
found_among test [] = tt
found_among test (x ∷ xs) =
    way_with (test x) (Some x) (find test xs) (λ o. OfSome (λ y. IsAmong y (x ∷ xs) × (test y ≡ true)) o) (λ pass. (inl refl, pass)) (λ fail. later (find test xs) (found_among test xs)) where
      later : (o : Option _) → OfSome (λ y. IsAmong y xs × (test y ≡ true)) o → OfSome (λ y. IsAmong y (x ∷ xs) × (test y ≡ true)) o
      later None of = tt
      later (Some y) of = (inr of.0, of.1)

-- ---- a range of numbers

pub among_range : (n a g : ℕ) → IsAmong g (range_with_len a n) → (a ≤ g) × (g < a + n)
among_range zero a g m = absurd m
among_range (suc n) a g (inl e) = (omega arith, omega arith)
among_range (suc n) a g (inr m) = let rest = among_range n (a + 1) g m in (omega arith, omega arith)

pub among_range-in : (n a g : ℕ) → a ≤ g → g < a + n → IsAmong g (range_with_len a n)
among_range-in zero a g low high = absurd (omega arith)
among_range-in (suc n) a g low high = elim (cases_eq g a) [
  | inl e ↦ inl e
  | inr other ↦ inr (among_range-in n (a + 1) g (omega arith) (omega arith))
]
