-- The greatest number of parts, in a loop.
use Rattle.std.proofs.Common.{◌≡◌, ◌∙◌, ℕ, ◌+◌, ◌<◌, List, [], ◌∷◌, ◌++◌, map, take, length, refl, sym, ap, arith, get_or}
use Rattle.std.proofs.lemmas.List.{map_more}
use Rattle.replica_rules.specs.Voting.{greater, greatest_of}

greater_assoc : (a b c : ℕ) → greater a (greater b c) ≡ greater (greater a b) c
greater_assoc a b c = grind arith

greatest_push : (xs : List ℕ) (y : ℕ) → greatest_of (xs ++ y ∷ []) ≡ greater (greatest_of xs) y
unfolding greatest_of
greatest_push [] y = grind arith
greatest_push (x ∷ xs) y = ap (λ n. greater x n) (greatest_push xs y) ∙ greater_assoc x (greatest_of xs) y

pub greatest-more : {A : Type 0} (f : A → ℕ) (xs : List A) (i : ℕ) (x : A) → i < length xs → x ≡ get_or xs i x → greatest_of (map f (take (i + 1) xs)) ≡ greater (greatest_of (map f (take i xs))) (f x)
greatest-more f xs i x within is =
    ap greatest_of (map_more f xs i x within) ∙ greatest_push (map f (take i xs)) (f (get_or xs i x)) ∙ ap (λ y. greater (greatest_of (map f (take i xs))) (f y)) (sym is)

pub greatest-none : {A : Type 0} (f : A → ℕ) (xs : List A) → greatest_of (map f (take 0 xs)) ≡ 0
unfolding greatest_of
greatest-none f xs = refl

pub greatest-start : 0 ≡ greatest_of []
unfolding greatest_of
greatest-start = refl
