-- Membership in lists, and the premise on collisions for a part of a list.
use Rattle.std.proofs.Common.{◌⊎◌, ℕ, List, [], ◌∷◌, ◌++◌, inl, inr}
use Rattle.merkle_region.specs.Tree.{IsAmong, NoTwoCollide}

pub among_left : {A : Type 0} (x : A) (xs ys : List A) → IsAmong x xs → IsAmong x (xs ++ ys)
among_left x [] ys h = absurd h
among_left x (y ∷ xs) ys (inl e) = inl e
among_left x (y ∷ xs) ys (inr h) = inr (among_left x xs ys h)

pub among_right : {A : Type 0} (x : A) (xs ys : List A) → IsAmong x ys → IsAmong x (xs ++ ys)
among_right x [] ys h = h
among_right x (y ∷ xs) ys h = inr (among_right x xs ys h)

pub among_either : {A : Type 0} (x : A) (xs ys : List A) → IsAmong x (xs ++ ys) → IsAmong x xs ⊎ IsAmong x ys
among_either x [] ys h = inr h
among_either x (y ∷ xs) ys (inl e) = inl (inl e)
among_either x (y ∷ xs) ys (inr h) = elim (among_either x xs ys h) [ inl a ↦ inl (inr a) | inr b ↦ inr b ]

-- what holds of a list holds of each list all of whose members are among it
pub none-within : (xs ys : List (List ℕ)) → ((x : List ℕ) → IsAmong x xs → IsAmong x ys) → NoTwoCollide ys → NoTwoCollide xs
none-within xs ys among none = λ x y p q e. none x y (among x p) (among y q) e

pub NoTwoCollide-left : (xs ys : List (List ℕ)) → NoTwoCollide (xs ++ ys) → NoTwoCollide xs
NoTwoCollide-left xs ys none = none-within xs (xs ++ ys) (λ x h. among_left x xs ys h) none

pub NoTwoCollide-right : (xs ys : List (List ℕ)) → NoTwoCollide (xs ++ ys) → NoTwoCollide ys
NoTwoCollide-right xs ys none = none-within ys (xs ++ ys) (λ x h. among_right x xs ys h) none
