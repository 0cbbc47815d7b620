-- The top over a list of 2 ^ k roots, and over its halves.
use Rattle.std.proofs.Common.{◌≡◌, ◌≢◌, ℕ, zero, suc, ◌+◌, ◌-◌, ◌*◌, ◌/◌, ◌^◌, ◌<◌, List, [], length, take, drop, get_or, refl, arith}
use Rattle.std.proofs.Math.Nat.{pow-suc}
use Rattle.std.proofs.Math.Numerals.{sub-one}
use Rattle.std.proofs.lemmas.Nat.{pow_pos}
use Rattle.salus_hash.specs.Hash.{above}
use Rattle.merkle_region.proofs.Halves.{half_of_power, half_lengths}
use Rattle.merkle_volume.specs.Top.{top_of}

pub top_of-step : (k : ℕ) (roots : List (List ℕ)) → top_of (suc k) roots ≡ above (top_of k (take (2 ^ k) roots)) (top_of k (drop (2 ^ k) roots))
unfolding top_of
top_of-step k roots = refl

pub top_of-none : (roots : List (List ℕ)) → top_of 0 roots ≡ get_or roots 0 []
unfolding top_of
top_of-none roots = refl

-- one root is the top
pub top_of-one : (k : ℕ) (roots : List (List ℕ)) → length roots ≡ 1 → length roots ≡ 2 ^ k → get_or roots 0 [] ≡ top_of k roots
unfolding top_of
top_of-one zero roots one count = refl
top_of-one (suc k) roots one count =
    let q : 2 ^ suc k ≡ 2 ^ k * 2 = pow-suc 2 k in
    let some = pow_pos k in
    absurd (omega arith)

more_than_one : (k n : ℕ) → n ≢ 1 → n ≡ 2 ^ k → 0 < k
more_than_one zero n many count = absurd (many count)
more_than_one (suc k) n many count = omega arith

-- several are split
module _ (k : ℕ) (roots front back : List (List ℕ)) (many : length roots ≢ 1) (count : length roots ≡ 2 ^ k)
    (f : front ≡ take (length roots / 2) roots) (b : back ≡ drop (length roots / 2) roots) where
  pub top_of-halves : top_of k roots ≡ above (top_of (k - 1) front) (top_of (k - 1) back)
  top_of-halves =
      let above_none = more_than_one k (length roots) many count in
      let half = half_of_power (length roots) k count above_none in
      let e : k ≡ suc (k - 1) = omega arith in
      let split = top_of-step (k - 1) roots in
      rw e cc

  -- each half has 2 ^ (k - 1) roots
  pub half_count : length front ≡ length roots / 2 → length back + length roots / 2 ≡ length roots
      → (length front ≡ 2 ^ (k - 1)) × (length back ≡ 2 ^ (k - 1))
  half_count m n = half_lengths k roots front back count (more_than_one k (length roots) many count) m n
