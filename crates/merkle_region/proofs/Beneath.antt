-- The path of a place, from the leaf upwards: on each level the root of the part beside the one that has the place.
use Rattle.std.proofs.Common.{◌≡◌, ℕ, zero, suc, ◌+◌, ◌*◌, ◌-◌, ◌/◌, ◌%◌, ◌^◌, ◌<◌, ◌≤◌, ◌∙◌, List, [], ◌∷◌, ◌++◌, length, take, drop, get_or, nat_lt, refl, sym, ap, inl, inr, arith}
use Rattle.std.proofs.Math.Nat.{pow-suc, div-lt_iff_lt-mul, add-mul-div_right, mul-le-mul_right}
use Rattle.std.proofs.lemmas.Nat.{pow-add, pow_pos}
use Rattle.std.proofs.lemmas.Bool.{cond-true, cond-false, lt-ltb, le-ltb, cases_lt}
use Rattle.std.proofs.lemmas.List.{get_or_append_left, get_or_push, take_all, drop_all}
use Rattle.merkle_region.specs.Tree.{root_of, path_from}
use Rattle.merkle_region.proofs.Climbing.{place_left, place_right}
use Rattle.merkle_region.proofs.Reached.{length-left_half, length-right_half, below_half, length-path_from}
use Rattle.merkle_region.proofs.Standing.{part, part-take, part-drop, part-whole}

-- the place beside this one, below the same parent
abbrev pub beside : ℕ → ℕ
beside x = x + 1 - 2 * (x % 2)

-- on each level below the top there is a place beside each
pub below_level : (h l i : ℕ) → l < h → i < 2 ^ h → (i / 2 ^ l < 2 ^ (h - l)) × (beside (i / 2 ^ l) < 2 ^ (h - l))
below_level h l i low within =
    let e : h ≡ h - l + l = omega arith in
    let whole : 2 ^ h ≡ 2 ^ (h - l) * 2 ^ l = ap (λ n. 2 ^ n) e ∙ pow-add 2 (h - l) l in
    let inside : i < 2 ^ (h - l) * 2 ^ l = rw whole at within in
    let here : i / 2 ^ l < 2 ^ (h - l) = (div-lt_iff_lt-mul (pow_pos l)).1 inside in
    let more : h - l ≡ suc (h - l - 1) = omega arith in
    let even : 2 ^ (h - l) ≡ 2 ^ (h - l - 1) * 2 = ap (λ n. 2 ^ n) more ∙ pow-suc 2 (h - l - 1) in
    (here, omega arith)

-- a step of the path's definition
path-left : (h : ℕ) (blocks : List (List ℕ)) (i : ℕ) → i < 2 ^ h
    → path_from (suc h) blocks i ≡ path_from h (take (2 ^ h) blocks) i ++ root_of h (drop (2 ^ h) blocks) ∷ []
unfolding path_from
path-left h blocks i below = cond-true (nat_lt i (2 ^ h)) _ _ (lt-ltb i (2 ^ h) below)

path-right : (h : ℕ) (blocks : List (List ℕ)) (i : ℕ) → 2 ^ h ≤ i
    → path_from (suc h) blocks i ≡ path_from h (drop (2 ^ h) blocks) (i - 2 ^ h) ++ root_of h (take (2 ^ h) blocks) ∷ []
unfolding path_from
path-right h blocks i above = cond-false (nat_lt i (2 ^ h)) _ _ (le-ltb i (2 ^ h) above)

-- what the induction goes over
abbrev IsBeside : ℕ → Type 0
IsBeside h = (blocks : List (List ℕ)) (i l : ℕ) → length blocks ≡ 2 ^ h → i < 2 ^ h → l < h
    → get_or (path_from h blocks i) l [] ≡ root_of l (part l (beside (i / 2 ^ l)) blocks)

-- the last digest of a path is the root of the other half
beside_top-left : (h : ℕ) (blocks : List (List ℕ)) (i : ℕ) → length blocks ≡ 2 ^ suc h → i < 2 ^ h
    → root_of h (drop (2 ^ h) blocks) ≡ root_of h (part h (beside (i / 2 ^ h)) blocks)
beside_top-left h blocks i count below =
    let zeroth : i / 2 ^ h ≡ 0 = place_left i h below in
    let one : beside (i / 2 ^ h) ≡ 1 = ap beside zeroth in
    let n : 1 * 2 ^ h ≡ 2 ^ h = omega arith in
    let all : take (2 ^ h) (drop (2 ^ h) blocks) ≡ drop (2 ^ h) blocks = take_all (2 ^ h) (drop (2 ^ h) blocks) (omega (arith, length-right_half h blocks count)) in
    rw (one, n) (ap (root_of h) (sym all))

beside_top-right : (h : ℕ) (blocks : List (List ℕ)) (i : ℕ) → i < 2 ^ suc h → 2 ^ h ≤ i
    → root_of h (take (2 ^ h) blocks) ≡ root_of h (part h (beside (i / 2 ^ h)) blocks)
beside_top-right h blocks i within above =
    let q : 2 ^ suc h ≡ 2 ^ h * 2 = pow-suc 2 h in
    let e : i ≡ i - 2 ^ h + 2 ^ h = omega arith in
    let first : i / 2 ^ h ≡ 1 = ap (λ n. n / 2 ^ h) e ∙ place_right (i - 2 ^ h) h (omega arith) in
    let none : beside (i / 2 ^ h) ≡ 0 = ap beside first in
    let n : 0 * 2 ^ h ≡ 0 = omega arith in
    rw (none, n) refl

-- the others are those of the half
beside_lower-left : (h l i : ℕ) (blocks : List (List ℕ)) → l < h → i < 2 ^ h
    → root_of l (part l (beside (i / 2 ^ l)) (take (2 ^ h) blocks)) ≡ root_of l (part l (beside (i / 2 ^ l)) blocks)
beside_lower-left h l i blocks low within =
    let e : h ≡ h - l + l = omega arith in
    let whole : 2 ^ h ≡ 2 ^ (h - l) * 2 ^ l = ap (λ n. 2 ^ n) e ∙ pow-add 2 (h - l) l in
    let below = below_level h l i low within in
    let inside : (beside (i / 2 ^ l) + 1) * 2 ^ l ≤ 2 ^ (h - l) * 2 ^ l = mul-le-mul_right (2 ^ l) (omega arith) in
    ap (root_of l) (part-take l (beside (i / 2 ^ l)) (2 ^ h) blocks (omega arith))

beside_lower-right : (h l i : ℕ) (blocks : List (List ℕ)) → l < h → 2 ^ h ≤ i
    → root_of l (part l (beside ((i - 2 ^ h) / 2 ^ l)) (drop (2 ^ h) blocks)) ≡ root_of l (part l (beside (i / 2 ^ l)) blocks)
beside_lower-right h l i blocks low above =
    let e : h ≡ h - l + l = omega arith in
    let whole : 2 ^ h ≡ 2 ^ (h - l) * 2 ^ l = ap (λ n. 2 ^ n) e ∙ pow-add 2 (h - l) l in
    let more : h - l ≡ suc (h - l - 1) = omega arith in
    let even : 2 ^ (h - l) ≡ 2 ^ (h - l - 1) * 2 = ap (λ n. 2 ^ n) more ∙ pow-suc 2 (h - l - 1) in
    let split : i ≡ i - 2 ^ h + 2 ^ (h - l) * 2 ^ l = omega arith in
    let place : i / 2 ^ l ≡ (i - 2 ^ h) / 2 ^ l + 2 ^ (h - l) = ap (λ n. n / 2 ^ l) split ∙ add-mul-div_right (i - 2 ^ h) (2 ^ (h - l)) (pow_pos l) in
    let shifted : beside (i / 2 ^ l) ≡ beside ((i - 2 ^ h) / 2 ^ l) + 2 ^ (h - l) = omega arith in
    ap (λ n. root_of l (part l (beside ((i - 2 ^ h) / 2 ^ l)) (drop n blocks))) whole
    ∙ ap (root_of l) (part-drop l (beside ((i - 2 ^ h) / 2 ^ l)) (2 ^ (h - l)) blocks ∙ ap (λ n. part l n blocks) (sym shifted))

-- one level more
beside_more-left : (h : ℕ) → IsBeside h → (blocks : List (List ℕ)) (i l : ℕ) → length blocks ≡ 2 ^ suc h → i < 2 ^ h → l < suc h
    → get_or (path_from (suc h) blocks i) l [] ≡ root_of l (part l (beside (i / 2 ^ l)) blocks)
beside_more-left h lower blocks i l count below low =
    let levels = length-path_from h (take (2 ^ h) blocks) i in
    ap (λ path. get_or path l []) (path-left h blocks i below)
    ∙ elim (cases_lt l h) [
      | inl under ↦
          get_or_append_left (path_from h (take (2 ^ h) blocks) i) (root_of h (drop (2 ^ h) blocks) ∷ []) [] l (omega arith)
          ∙ (lower (take (2 ^ h) blocks) i l (length-left_half h blocks count) below under ∙ beside_lower-left h l i blocks under below)
      | inr over ↦
          let top : l ≡ h = omega arith in
          rw top (get_or_push (path_from h (take (2 ^ h) blocks) i) (root_of h (drop (2 ^ h) blocks)) [] h levels ∙ beside_top-left h blocks i count below)
    ]

beside_more-right : (h : ℕ) → IsBeside h → (blocks : List (List ℕ)) (i l : ℕ) → length blocks ≡ 2 ^ suc h → i < 2 ^ suc h → 2 ^ h ≤ i → l < suc h
    → get_or (path_from (suc h) blocks i) l [] ≡ root_of l (part l (beside (i / 2 ^ l)) blocks)
beside_more-right h lower blocks i l count within above low =
    let levels = length-path_from h (drop (2 ^ h) blocks) (i - 2 ^ h) in
    ap (λ path. get_or path l []) (path-right h blocks i above)
    ∙ elim (cases_lt l h) [
      | inl under ↦
          get_or_append_left (path_from h (drop (2 ^ h) blocks) (i - 2 ^ h)) (root_of h (take (2 ^ h) blocks) ∷ []) [] l (omega arith)
          ∙ (lower (drop (2 ^ h) blocks) (i - 2 ^ h) l (length-right_half h blocks count) (below_half h i within above) under
          ∙ beside_lower-right h l i blocks under above)
      | inr over ↦
          let top : l ≡ h = omega arith in
          rw top (get_or_push (path_from h (drop (2 ^ h) blocks) (i - 2 ^ h)) (root_of h (take (2 ^ h) blocks)) [] h levels
          ∙ beside_top-right h blocks i within above)
    ]

-- the digest of each level
pub path_from-at : (h : ℕ) → IsBeside h
path_from-at zero blocks i l count within low = absurd (omega arith)
path_from-at (suc h) blocks i l count within low = elim (cases_lt i (2 ^ h)) [
  | inl below ↦ beside_more-left h (path_from-at h) blocks i l count below low
  | inr above ↦ beside_more-right h (path_from-at h) blocks i l count within above low
]
