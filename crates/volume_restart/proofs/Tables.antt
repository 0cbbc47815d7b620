-- What holds of each node of the volume.
use Rattle.std.proofs.Common.{◌≡◌, ℕ, zero, suc, ◌+◌, ◌*◌, ◌<◌, ◌≤◌, ◌∙◌, Bool, true, false, ◌&&◌, List, [], ◌∷◌, ◌++◌, map, inl, inr, refl, sym, ap, subst, arith}
use Rattle.std.specs.Prelude.{flat_map}
use Rattle.std.specs.List.{list_all, range_with_len}
use Rattle.std.proofs.lemmas.Bool.{and_from, and_left, and_right, cases_eq}
use Rattle.std.proofs.Math.Nat.{mul-le-mul_right}

-- a node's entry is in the table
pub place_within : (g p regions replicas : ℕ) → g < regions → p < replicas → g * replicas + p < regions * replicas
place_within g p regions replicas a b =
    let least : suc g * replicas ≤ regions * replicas = mul-le-mul_right replicas a in
    omega (arith, least, b)

module _ {A : Type 0} (P : A → Bool) where
  pub all-append : (xs ys : List A) → list_all P (xs ++ ys) ≡ (list_all P xs && list_all P ys)
  all-append [] ys = refl
  all-append (x ∷ xs) ys = ap (λ t. P x && t) (all-append xs ys) ∙ assoc (P x) (list_all P xs) (list_all P ys) where
    assoc : (a b d : Bool) → (a && (b && d)) ≡ (a && b && d)
    assoc true b d = refl
    assoc false b d = refl

  module _ (f : ℕ → A) where
    pub all-range : (a n : ℕ) → ((r : ℕ) → a ≤ r → r < a + n → P (f r) ≡ true) → list_all P (map f (range_with_len a n)) ≡ true
    all-range a zero each = refl
    all-range a (suc n) each =
        and_from (P (f a)) (list_all P (map f (range_with_len (a + 1) n))) (each a (omega arith) (omega arith)) (all-range (a + 1) n (λ r le lt. each r (omega arith) (omega arith)))

    pub none-range : (a n r : ℕ) → a ≤ r → r < a + n → P (f r) ≡ false → list_all P (map f (range_with_len a n)) ≡ false
    none-range a zero r le lt bad = absurd (omega arith)
    none-range a (suc n) r le lt bad = elim (cases_eq a r) [
      | inl same ↦ and_left (P (f a)) (list_all P (map f (range_with_len (a + 1) n))) (subst (λ k. P (f k) ≡ false) (sym same) bad)
      | inr other ↦ and_right (P (f a)) (list_all P (map f (range_with_len (a + 1) n))) (none-range (a + 1) n r (omega (arith, other)) (omega arith) bad)
    ]

  module _ (F : ℕ → List A) where
    pub all-groups : (a n : ℕ) → ((g : ℕ) → a ≤ g → g < a + n → list_all P (F g) ≡ true) → list_all P (flat_map F (range_with_len a n)) ≡ true
    all-groups a zero each = refl
    all-groups a (suc n) each =
        all-append (F a) (flat_map F (range_with_len (a + 1) n))
        ∙ and_from (list_all P (F a)) (list_all P (flat_map F (range_with_len (a + 1) n))) (each a (omega arith) (omega arith)) (all-groups (a + 1) n (λ g le lt. each g (omega arith) (omega arith)))

    pub none-groups : (a n g : ℕ) → a ≤ g → g < a + n → list_all P (F g) ≡ false → list_all P (flat_map F (range_with_len a n)) ≡ false
    none-groups a zero g le lt bad = absurd (omega arith)
    none-groups a (suc n) g le lt bad =
        all-append (F a) (flat_map F (range_with_len (a + 1) n)) ∙ elim (cases_eq a g) [
          | inl same ↦ and_left (list_all P (F a)) (list_all P (flat_map F (range_with_len (a + 1) n))) (subst (λ k. list_all P (F k) ≡ false) (sym same) bad)
          | inr other ↦ and_right (list_all P (F a)) (list_all P (flat_map F (range_with_len (a + 1) n))) (none-groups (a + 1) n g (omega (arith, other)) (omega arith) bad)
        ]
