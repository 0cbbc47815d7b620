-- The path that a place has reaches the root.
use Rattle.std.proofs.Common.{◌≡◌, ℕ, zero, suc, ◌+◌, ◌-◌, ◌*◌, ◌/◌, ◌^◌, ◌<◌, ◌≤◌, ◌∙◌, List, [], ◌∷◌, ◌++◌, length, take, drop, nat_lt, refl, ap, sym, arith}
use Rattle.std.proofs.Math.Nat.{pow-suc}
use Rattle.std.proofs.lemmas.Bool.{cond_both, ltb-true, ltb-false}
use Rattle.std.proofs.lemmas.List.{length-take-le, length-drop, length_push, get_or-take, get_or-drop}
use Rattle.salus_hash.specs.Hash.{leaf, inner}
use Rattle.merkle_region.specs.Tree.{root_of, path_from, climb, parent, block_at, Verifies}
use Rattle.merkle_region.proofs.Climbing.{climb-append, climb-shifted, place_left, place_right}

-- each half of a list of 2 ^ (h + 1) elements has 2 ^ h
pub length-left_half : (h : ℕ) (blocks : List (List ℕ)) → length blocks ≡ 2 ^ suc h → length (take (2 ^ h) blocks) ≡ 2 ^ h
length-left_half h blocks n = let q : 2 ^ suc h ≡ 2 ^ h * 2 = pow-suc 2 h in length-take-le (2 ^ h) blocks (omega arith)

pub length-right_half : (h : ℕ) (blocks : List (List ℕ)) → length blocks ≡ 2 ^ suc h → length (drop (2 ^ h) blocks) ≡ 2 ^ h
length-right_half h blocks n = let q : 2 ^ suc h ≡ 2 ^ h * 2 = pow-suc 2 h in omega (arith, length-drop (2 ^ h) blocks)

pub below_half : (h i : ℕ) → i < 2 ^ suc h → 2 ^ h ≤ i → i - 2 ^ h < 2 ^ h
below_half h i within above = let q : 2 ^ suc h ≡ 2 ^ h * 2 = pow-suc 2 h in omega arith

pub block_at-right : (h i : ℕ) (blocks : List (List ℕ)) → 2 ^ h ≤ i → block_at (drop (2 ^ h) blocks) (i - 2 ^ h) ≡ block_at blocks i
block_at-right h i blocks above =
    let e : 2 ^ h + (i - 2 ^ h) ≡ i = omega arith in get_or-drop (2 ^ h) blocks (i - 2 ^ h) [] ∙ ap (λ n. block_at blocks n) e

-- one level up, from the left half and from the right one
climb_left : (h i : ℕ) (digest left right : List ℕ) (front : List (List ℕ)) → length front ≡ h → i < 2 ^ h
    → climb i digest front ≡ left → climb i digest (front ++ right ∷ []) ≡ inner left right
climb_left h i digest left right front n below e =
    let place : i / 2 ^ length front ≡ 0 = rw n (place_left i h below) in
    climb-append i digest front right ∙ (ap (λ k. parent k (climb i digest front) right) place ∙ ap (λ d. inner d right) e)

climb_right : (h i j : ℕ) (digest left right : List ℕ) (front : List (List ℕ)) → length front ≡ h → j < 2 ^ h → i ≡ j + 2 ^ h
    → climb j digest front ≡ right → climb i digest (front ++ left ∷ []) ≡ inner left right
climb_right h i j digest left right front n below s e =
    let place : i / 2 ^ length front ≡ 1 = rw (n, s) (place_right j h below) in
    let low : climb i digest front ≡ climb j digest front = rw (s, ← n) (climb-shifted j digest front) in
    climb-append i digest front left ∙ (ap (λ k. parent k (climb i digest front) left) place ∙ ap (λ d. inner left d) (low ∙ e))

length-more : (h : ℕ) (front : List (List ℕ)) (last : List ℕ) → length front ≡ h → length (front ++ last ∷ []) ≡ suc h
length-more h front last n = omega (arith, length_push front last)

-- a path has a digest for each level
pub length-path_from : (h : ℕ) (blocks : List (List ℕ)) (i : ℕ) → length (path_from h blocks i) ≡ h
unfolding path_from
length-path_from zero blocks i = refl
length-path_from (suc h) blocks i =
    cond_both {A = List (List ℕ)} (nat_lt i (2 ^ h))
    (path_from h (take (2 ^ h) blocks) i ++ root_of h (drop (2 ^ h) blocks) ∷ [])
    (path_from h (drop (2 ^ h) blocks) (i - 2 ^ h) ++ root_of h (take (2 ^ h) blocks) ∷ [])
    (λ path. length path ≡ suc h)
    (λ t. length-more h _ (root_of h (drop (2 ^ h) blocks)) (length-path_from h (take (2 ^ h) blocks) i))
    (λ t. length-more h _ (root_of h (take (2 ^ h) blocks)) (length-path_from h (drop (2 ^ h) blocks) (i - 2 ^ h)))

-- the same at the roots of the halves
left_climbs : (h : ℕ) (blocks : List (List ℕ)) (i : ℕ) → i < 2 ^ h
    → climb i (leaf (block_at (take (2 ^ h) blocks) i)) (path_from h (take (2 ^ h) blocks) i) ≡ root_of h (take (2 ^ h) blocks)
    → climb i (leaf (block_at blocks i)) (path_from h (take (2 ^ h) blocks) i ++ root_of h (drop (2 ^ h) blocks) ∷ []) ≡ root_of (suc h) blocks
unfolding root_of
left_climbs h blocks i below e =
    climb_left h i _ _ _ _ (length-path_from h (take (2 ^ h) blocks) i) below
    (ap (λ block. climb i (leaf block) (path_from h (take (2 ^ h) blocks) i)) (sym (get_or-take (2 ^ h) blocks i [] below)) ∙ e)

right_climbs : (h : ℕ) (blocks : List (List ℕ)) (i : ℕ) → i < 2 ^ suc h → 2 ^ h ≤ i
    → climb (i - 2 ^ h) (leaf (block_at (drop (2 ^ h) blocks) (i - 2 ^ h))) (path_from h (drop (2 ^ h) blocks) (i - 2 ^ h)) ≡ root_of h (drop (2 ^ h) blocks)
    → climb i (leaf (block_at blocks i)) (path_from h (drop (2 ^ h) blocks) (i - 2 ^ h) ++ root_of h (take (2 ^ h) blocks) ∷ []) ≡ root_of (suc h) blocks
unfolding root_of
right_climbs h blocks i within above e =
    climb_right h i (i - 2 ^ h) _ _ _ _ (length-path_from h (drop (2 ^ h) blocks) (i - 2 ^ h)) (below_half h i within above) (omega arith)
    (ap (λ block. climb (i - 2 ^ h) (leaf block) (path_from h (drop (2 ^ h) blocks) (i - 2 ^ h))) (sym (block_at-right h i blocks above)) ∙ e)

-- the path of a place climbs to the root
pub path_from-climbs : (h : ℕ) (blocks : List (List ℕ)) (i : ℕ) → length blocks ≡ 2 ^ h → i < 2 ^ h
    → climb i (leaf (block_at blocks i)) (path_from h blocks i) ≡ root_of h blocks
unfolding path_from root_of climb
path_from-climbs zero blocks i n within = let first : i ≡ 0 = omega arith in ap (λ k. leaf (block_at blocks k)) first
path_from-climbs (suc h) blocks i n within =
    cond_both {A = List (List ℕ)} (nat_lt i (2 ^ h))
    (path_from h (take (2 ^ h) blocks) i ++ root_of h (drop (2 ^ h) blocks) ∷ [])
    (path_from h (drop (2 ^ h) blocks) (i - 2 ^ h) ++ root_of h (take (2 ^ h) blocks) ∷ [])
    (λ path. climb i (leaf (block_at blocks i)) path ≡ root_of (suc h) blocks)
    (λ t. left_climbs h blocks i (ltb-true i (2 ^ h) t) (path_from-climbs h (take (2 ^ h) blocks) i (length-left_half h blocks n) (ltb-true i (2 ^ h) t)))
    (λ t. right_climbs h blocks i within (ltb-false i (2 ^ h) t)
    (path_from-climbs h (drop (2 ^ h) blocks) (i - 2 ^ h) (length-right_half h blocks n) (below_half h i within (ltb-false i (2 ^ h) t))))

pub path_from-Verifies : (h : ℕ) (blocks : List (List ℕ)) (i : ℕ) → length blocks ≡ 2 ^ h → i < 2 ^ h
    → Verifies (root_of h blocks) h i (block_at blocks i) (path_from h blocks i)
path_from-Verifies h blocks i n within = record { levels = length-path_from h blocks i; climbs = path_from-climbs h blocks i n within }
