-- Climbing a path: step by step, with one more sibling at its end, and from a place in the right half.
use Rattle.std.proofs.Common.{◌≡◌, ℕ, suc, ◌+◌, ◌*◌, ◌/◌, ◌%◌, ◌^◌, ◌<◌, ◌≤◌, ◌∙◌, List, [], ◌∷◌, ◌++◌, length, get_or, drop, refl, ap, arith}
use Rattle.std.proofs.Math.Nat.{pow-suc}
use Rattle.std.proofs.Math.Numerals.{one-add}
use Rattle.std.proofs.lemmas.Nat.{shr-shr, div-mul-add}
use Rattle.std.proofs.lemmas.List.{drop_more, drop_all}
use Rattle.merkle_region.specs.Tree.{climb, climb_strings, parent, parent_string}

-- one sibling of the rest of a path
pub climb-more : (i : ℕ) (digest : List ℕ) (path : List (List ℕ)) (at : ℕ) (d : List ℕ) → at < length path
    → climb i digest (drop at path) ≡ climb (i / 2) (parent i digest (get_or path at d)) (drop (at + 1) path)
unfolding climb
climb-more i digest path at d within = rw (drop_more path at d within)

-- nothing is left of a path
pub climb-all : (i : ℕ) (digest : List ℕ) (path : List (List ℕ)) (at : ℕ) → length path ≤ at → climb i digest (drop at path) ≡ digest
unfolding climb
climb-all i digest path at past = rw (drop_all at path past)

-- a place n + 1 levels up
place_up : (i n : ℕ) → i / 2 / 2 ^ n ≡ i / 2 ^ suc n
place_up i n = rw one-add at (shr-shr i 1 n)

-- with one more sibling at the end
pub climb-append : (i : ℕ) (digest : List ℕ) (front : List (List ℕ)) (last : List ℕ)
    → climb i digest (front ++ last ∷ []) ≡ parent (i / 2 ^ length front) (climb i digest front) last
unfolding climb
climb-append i digest [] last = let same : i ≡ i / 1 = omega arith in ap (λ n. parent n digest last) same
climb-append i digest (sibling ∷ front) last =
    climb-append (i / 2) (parent i digest sibling) front last
    ∙ ap (λ n. parent n (climb (i / 2) (parent i digest sibling) front) last) (place_up i (length front))

pub climb_strings-append : (i : ℕ) (digest : List ℕ) (front : List (List ℕ)) (last : List ℕ)
    → climb_strings i digest (front ++ last ∷ [])
    ≡ climb_strings i digest front ++ parent_string (i / 2 ^ length front) (climb i digest front) last ∷ []
unfolding climb climb_strings
climb_strings-append i digest [] last = let same : i ≡ i / 1 = omega arith in ap (λ n. parent_string n digest last ∷ []) same
climb_strings-append i digest (sibling ∷ front) last =
    ap (λ strings. parent_string i digest sibling ∷ strings)
    (climb_strings-append (i / 2) (parent i digest sibling) front last
    ∙ ap (λ n. climb_strings (i / 2) (parent i digest sibling) front
    ++ parent_string n (climb (i / 2) (parent i digest sibling) front) last ∷ []) (place_up i (length front)))

half_shifted : (i n : ℕ) → (i + 2 ^ suc n) / 2 ≡ i / 2 + 2 ^ n
half_shifted i n = let q : 2 ^ suc n ≡ 2 ^ n * 2 = pow-suc 2 n in omega arith

parity_shifted : (i n : ℕ) → (i + 2 ^ suc n) % 2 ≡ i % 2
parity_shifted i n = let q : 2 ^ suc n ≡ 2 ^ n * 2 = pow-suc 2 n in omega arith

parent_string-shifted : (i n : ℕ) (digest sibling : List ℕ) → parent_string (i + 2 ^ suc n) digest sibling ≡ parent_string i digest sibling
parent_string-shifted i n digest sibling = rw (parity_shifted i n)

-- a path sees only as many low bits of the place as it has siblings
pub climb-shifted : (i : ℕ) (digest : List ℕ) (path : List (List ℕ)) → climb (i + 2 ^ length path) digest path ≡ climb i digest path
unfolding climb
climb-shifted i digest [] = refl
climb-shifted i digest (sibling ∷ path) =
    rw (half_shifted i (length path), parity_shifted i (length path)) (climb-shifted (i / 2) (parent i digest sibling) path)

pub climb_strings-shifted : (i : ℕ) (digest : List ℕ) (path : List (List ℕ)) → climb_strings (i + 2 ^ length path) digest path ≡ climb_strings i digest path
unfolding climb_strings
climb_strings-shifted i digest [] = refl
climb_strings-shifted i digest (sibling ∷ path) =
    rw (half_shifted i (length path), parity_shifted i (length path))
    (ap (λ strings. parent_string i digest sibling ∷ strings) (climb_strings-shifted (i / 2) (parent i digest sibling) path))

-- the place above a path of n siblings: 0 in the left half, 1 in the right one
pub place_left : (i n : ℕ) → i < 2 ^ n → i / 2 ^ n ≡ 0
place_left i n below =
    let e : i ≡ 0 * 2 ^ n + i = omega arith in ap (λ k. k / 2 ^ n) e ∙ div-mul-add 0 (2 ^ n) i below

pub place_right : (i n : ℕ) → i < 2 ^ n → (i + 2 ^ n) / 2 ^ n ≡ 1
place_right i n below =
    let e : i + 2 ^ n ≡ 1 * 2 ^ n + i = omega arith in ap (λ k. k / 2 ^ n) e ∙ div-mul-add 1 (2 ^ n) i below
