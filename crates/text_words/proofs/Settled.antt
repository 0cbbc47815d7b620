-- A reading that finds exactly what a relation says.
use Rattle.std.proofs.Common.{◌≡◌, ◌⊎◌, ℕ, Bool, true, false, cond, refl, ap, inl, inr, ◌<◌, ◌≤◌, arith}
use Rattle.std.specs.Prelude.{Option, None, Some}

pub record Settles {X : Type 0} (o : Option X) (R : X → Type 0) : Type 0 where
  pub sound : (x : X) → o ≡ Some x → R x
  pub only : (x : X) → R x → o ≡ Some x

pub pick_true : {X : Type 0} (t : Bool) (x y : X) → t ≡ true → cond t x y ≡ x
pick_true t x y e = ap (λ b. cond b x y) e

pub pick_false : {X : Type 0} (t : Bool) (x y : X) → t ≡ false → cond t x y ≡ y
pick_false t x y e = ap (λ b. cond b x y) e

-- which branch gave the value
pub chosen : {X : Type 0} (t : Bool) (x y z : X) → cond t x y ≡ z → ((t ≡ true) × (x ≡ z)) ⊎ ((t ≡ false) × (y ≡ z))
chosen true x y z e = inl (refl, e)
chosen false x y z e = inr (refl, e)

pub le_lt : (a b c : ℕ) → a ≤ b → b < c → a < c
le_lt a b c p q = omega arith

pub not_true : (t : Bool) → ¬ (t ≡ true) → t ≡ false
not_true true h = absurd (h refl)
not_true false h = refl

-- where nothing can be held, nothing is
pub none_from : {X : Type 0} (o : Option X) → ((x : X) → o ≡ Some x → ⊥) → o ≡ None
none_from None h = refl
none_from (Some x) h = absurd (h x refl)
