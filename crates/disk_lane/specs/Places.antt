-- The places of a lane's bytes: the only proofs that compute with the sizes.
use Rattle.std.proofs.Common.{◌≡◌, ◌⊎◌, inl, inr, ⊎_elim, ℕ, ◌+◌, ◌≤◌, ◌<◌, ◌-◌, min, max, ◌^◌, arith}
use Rattle.std.proofs.lemmas.Bool.{cases_lt}
use Rattle.disk_lane.specs.Lanes.{place, count, page_rest}

pub place_below : (lane i n : ℕ) → i < count lane n → place lane i < n
unfolding place count
place_below lane i n there = omega arith

pub below_count : (lane i n : ℕ) → place lane i < n → i < count lane n
unfolding place count
below_count lane i n there = omega arith

pub place_grows : (lane i j : ℕ) → i < j → place lane i < place lane j
unfolding place
place_grows lane i j below = omega arith

pub place_in_page : (lane i j : ℕ) → j < page_rest i → place lane (i + j) ≡ place lane i + j
unfolding place page_rest
place_in_page lane i j inside = omega arith

pub count_in_page : (lane i k : ℕ) → k ≤ page_rest i → count lane (place lane i + k) ≡ i + k
unfolding place count page_rest
count_in_page lane i k inside = omega arith

pub page_rest_some : (i : ℕ) → 0 < page_rest i
unfolding page_rest
page_rest_some i = omega arith

pub head_before : (lane i : ℕ) → 16 ≤ place lane i
unfolding place
head_before lane i = omega arith

pub lanes_apart : (i j : ℕ) → place 0 i ≡ place 1 j → ⊥
unfolding place
lanes_apart i j same = omega arith

pub count_grows : (lane m n : ℕ) → m ≤ n → count lane m ≤ count lane n
count_grows lane m n le = ⊎_elim (λ (above : count lane n < count lane m). absurd (omega (arith, below_count lane (count lane n) n (omega (arith, place_below lane (count lane n) m above))))) (λ (is : count lane m ≤ count lane n). is) (cases_lt (count lane n) (count lane m))

pub count_at_place : (lane i : ℕ) → count lane (place lane i) ≡ i
unfolding place count
count_at_place lane i = omega arith

pub place_fits : (lane i : ℕ) → lane < 2 → i < 2 ^ 62 → place lane i + 4096 < 2 ^ 64
unfolding place
place_fits lane i is below = omega arith

pub page_rest_short : (i : ℕ) → page_rest i ≤ 4096
unfolding page_rest
page_rest_short i = omega arith

pub place_above : (lane i : ℕ) → i ≤ place lane i
unfolding place
place_above lane i = omega arith

pub other_apart : (lane i j : ℕ) → lane < 2 → place (1 - lane) j ≡ place lane i → ⊥
unfolding place
other_apart lane i j is same = omega arith
