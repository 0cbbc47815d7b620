-- Places and regions that ascend, in a loop.
use Rattle.std.proofs.Common.{◌≡◌, ℕ, ◌+◌, ◌<◌, ◌≤◌, ◌∙◌, true, ◌&&◌, nat_le, List, length, map, drop, get_or, ap, sym}
use Rattle.std.proofs.lemmas.List.{at_drop_more, at_drop_all}
use Rattle.holding_model.specs.Fitting.{ascends_from}

-- `number` tells what ascends
pub ascends-on : {A : Type 0} (number : A → ℕ) (low : ℕ) (xs : List A) (i : ℕ) (x : A) → i < length xs → x ≡ get_or xs i x
    → ascends_from low (map number (drop i xs)) ≡ (nat_le low (number x) && ascends_from (number x + 1) (map number (drop (i + 1) xs)))
unfolding ascends_from
ascends-on number low xs i x lt is =
    at_drop_more (λ ys. ascends_from low (map number ys)) xs i x lt
    ∙ ap (λ y. nat_le low (number y) && ascends_from (number y + 1) (map number (drop (i + 1) xs))) (sym is)

pub ascends-end : {A : Type 0} (number : A → ℕ) (low : ℕ) (xs : List A) (i : ℕ) → length xs ≤ i → ascends_from low (map number (drop i xs)) ≡ true
unfolding ascends_from
ascends-end number low xs i le = at_drop_all (λ ys. ascends_from low (map number ys)) xs i le

pub rises-on : (low : ℕ) (xs : List ℕ) (i : ℕ) → i < length xs → ascends_from low (drop i xs) ≡ (nat_le low (get_or xs i 0) && ascends_from (get_or xs i 0 + 1) (drop (i + 1) xs))
unfolding ascends_from
rises-on low xs i lt = at_drop_more (λ ys. ascends_from low ys) xs i 0 lt

pub rises-end : (low : ℕ) (xs : List ℕ) (i : ℕ) → length xs ≤ i → ascends_from low (drop i xs) ≡ true
unfolding ascends_from
rises-end low xs i le = at_drop_all (λ ys. ascends_from low ys) xs i le
