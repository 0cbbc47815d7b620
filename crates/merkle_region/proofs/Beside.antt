-- The path of a place, over the halves that a list of 2 ^ h elements is split into.
use Rattle.std.proofs.Common.{◌≡◌, ℕ, zero, suc, ◌-◌, ◌*◌, ◌/◌, ◌^◌, ◌<◌, ◌≤◌, List, [], ◌∷◌, ◌++◌, length, take, drop, nat_lt, refl, arith}
use Rattle.std.proofs.Math.Numerals.{sub-one}
use Rattle.std.proofs.lemmas.Bool.{cond-true, cond-false, lt-ltb, le-ltb}
use Rattle.merkle_region.specs.Tree.{root_of, path_from}
use Rattle.merkle_region.proofs.Halves.{half_of_power, power_halved}

pub path_from-none : (h : ℕ) (blocks : List (List ℕ)) (i : ℕ) → h ≡ 0 → path_from h blocks i ≡ []
unfolding path_from
path_from-none zero blocks i e = refl
path_from-none (suc h) blocks i e = absurd (omega arith)

left_path : (h : ℕ) (blocks : List (List ℕ)) (i : ℕ) → 0 < h → i < 2 ^ (h - 1)
    → path_from h blocks i ≡ path_from (h - 1) (take (2 ^ (h - 1)) blocks) i ++ root_of (h - 1) (drop (2 ^ (h - 1)) blocks) ∷ []
unfolding path_from
left_path zero blocks i p below = absurd (omega arith)
left_path (suc h) blocks i p below =
    let low : i < 2 ^ h = rw sub-one at below in rw sub-one (cond-true (nat_lt i (2 ^ h)) _ _ (lt-ltb i (2 ^ h) low))

right_path : (h : ℕ) (blocks : List (List ℕ)) (i : ℕ) → 0 < h → 2 ^ (h - 1) ≤ i
    → path_from h blocks i ≡ path_from (h - 1) (drop (2 ^ (h - 1)) blocks) (i - 2 ^ (h - 1)) ++ root_of (h - 1) (take (2 ^ (h - 1)) blocks) ∷ []
unfolding path_from
right_path zero blocks i p above = absurd (omega arith)
right_path (suc h) blocks i p above =
    let high : 2 ^ h ≤ i = rw sub-one at above in rw sub-one (cond-false (nat_lt i (2 ^ h)) _ _ (le-ltb i (2 ^ h) high))

module _ (h : ℕ) (blocks front back : List (List ℕ)) (i : ℕ) (n : length blocks ≡ 2 ^ h) (p : 0 < h)
    (f : front ≡ take (length blocks / 2) blocks) (b : back ≡ drop (length blocks / 2) blocks) (m : length front ≡ length blocks / 2) where
  pub path_from-left : i < length front → path_from h blocks i ≡ path_from (h - 1) front i ++ root_of (h - 1) back ∷ []
  path_from-left below =
      let half = half_of_power (length blocks) h n p in
      let low : i < 2 ^ (h - 1) = omega arith in
      let step = left_path h blocks i p low in
      cc

  pub path_from-right : length front ≤ i → path_from h blocks i ≡ path_from (h - 1) back (i - length front) ++ root_of (h - 1) front ∷ []
  path_from-right above =
      let half = half_of_power (length blocks) h n p in
      let high : 2 ^ (h - 1) ≤ i = omega arith in
      let step = right_path h blocks i p high in
      cc

  pub below_back_half : i < 2 ^ h → length front ≤ i → i - length front < 2 ^ (h - 1)
  below_back_half within above =
      let half = half_of_power (length blocks) h n p in
      let whole : 2 ^ h ≡ 2 ^ (h - 1) * 2 = power_halved h p in
      omega arith
