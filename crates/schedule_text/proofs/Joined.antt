-- Steps of the writer: words of words, and the power that a number of regions is.
use Rattle.std.proofs.Common.{◌≡◌, ℕ, ◌+◌, ◌*◌, ◌^◌, ◌<◌, ◌≤◌, List, [], ◌∷◌, ◌++◌, length, take, take_all, refl, sym, ap, ◌∙◌, arith, inl, inr}
use Rattle.std.specs.List.{flat_map}
use Rattle.std.proofs.lemmas.Bool.{cases_eq, cases_lt}
use Rattle.std.proofs.lemmas.Grind.{flat_map-append, pow_more}
use Rattle.std.proofs.lemmas.Nat.{pow_below}

pub flat_map-flat_map : {X Y Z : Type 0} (f : Y → List Z) (g : X → List Y) (xs : List X) → flat_map f (flat_map g xs) ≡ flat_map (λ x. flat_map f (g x)) xs
flat_map-flat_map f g [] = refl
flat_map-flat_map f g (x ∷ xs) = flat_map-append f (g x) (flat_map g xs) ∙ ap (λ l. flat_map f (g x) ++ l) (flat_map-flat_map f g xs)

not_below : (n k : ℕ) → 2 ^ k < 2 * 2 ^ n → ¬ (n < k)
not_below n k high lt = elim (cases_eq k (n + 1)) [
  | inl is ↦ let more = pow_more 2 n in let whole = ap (λ m. 2 ^ m) is in absurd (omega (arith, high, more, whole))
  | inr other ↦
      let more = pow_more 2 n in
      let far : n + 1 < k = omega (arith, lt, other) in
      let above = pow_below (n + 1) k far in
      absurd (omega (arith, high, more, above))
]

-- a power of 2 has one logarithm
pub same_log : (n k : ℕ) → 2 ^ n ≤ 2 ^ k → 2 ^ k < 2 * 2 ^ n → n ≡ k
same_log n k low high = elim (cases_lt k n) [
  | inl below ↦ let above = pow_below k n below in absurd (omega (arith, low, above))
  | inr least ↦ let most = not_below n k high in grind (arith, least, most)
]

-- the words of all the lists that were walked
pub all_walked : {X Y Z : Type 0} (f : Y → List Z) (g : X → List Y) (old out : List Z) (xs ys : List X) (i : ℕ)
    → out ≡ old ++ flat_map (λ x. flat_map f (g x)) (take i xs) → length xs ≤ i → xs ≡ ys → out ≡ old ++ flat_map f (flat_map g ys)
all_walked f g old out xs ys i is far same =
    is ∙ (ap (λ l. old ++ flat_map (λ x. flat_map f (g x)) l) (take_all i xs far ∙ same) ∙ ap (λ l. old ++ l) (sym (flat_map-flat_map f g ys)))
