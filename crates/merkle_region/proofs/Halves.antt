-- A list of 2 ^ h elements and its two halves.
use Rattle.std.proofs.Common.{◌≡◌, ℕ, zero, suc, ◌+◌, ◌-◌, ◌*◌, ◌/◌, ◌^◌, ◌<◌, List, [], length, take, drop, get_or, refl, arith}
use Rattle.std.proofs.Math.Nat.{pow-suc}
use Rattle.std.proofs.Math.Numerals.{sub-one}
use Rattle.std.proofs.lemmas.Nat.{pow_pos}
use Rattle.std.proofs.lemmas.List.{get_or_read}
use Rattle.salus_hash.specs.Hash.{leaf, inner}
use Rattle.merkle_region.specs.Tree.{root_of, block_at}

-- half of a power of two
pub half_of_power : (n h : ℕ) → n ≡ 2 ^ h → 0 < h → n / 2 ≡ 2 ^ (h - 1)
half_of_power n zero e p = absurd (omega arith)
half_of_power n (suc k) e p = let q : 2 ^ suc k ≡ 2 ^ k * 2 = pow-suc 2 k in let r : n / 2 ≡ 2 ^ k = omega arith in rw sub-one r

pub power_halved : (h : ℕ) → 0 < h → 2 ^ h ≡ 2 ^ (h - 1) * 2
power_halved zero p = absurd (omega arith)
power_halved (suc k) p = rw sub-one (pow-suc 2 k)

-- each half has 2 ^ (h - 1) elements
pub half_lengths : (h : ℕ) (blocks front back : List (List ℕ)) → length blocks ≡ 2 ^ h → 0 < h → length front ≡ length blocks / 2
    → length back + length blocks / 2 ≡ length blocks → (length front ≡ 2 ^ (h - 1)) × (length back ≡ 2 ^ (h - 1))
half_lengths h blocks front back n p f b =
    let half = half_of_power (length blocks) h n p in
    let whole = power_halved h p in
    (omega arith, omega arith)

-- a list of 2 ^ h elements has a first one
pub first_read : (h : ℕ) (blocks : List (List ℕ)) (block : List ℕ) → length blocks ≡ 2 ^ h → block ≡ get_or blocks 0 block → block ≡ block_at blocks 0
first_read h blocks block n e =
    let within : 0 < length blocks = omega (arith, pow_pos h) in get_or_read blocks 0 block within e []

-- the root at a height of 0
pub root_of-leaf : (h : ℕ) (blocks : List (List ℕ)) → h ≡ 0 → root_of h blocks ≡ leaf (block_at blocks 0)
unfolding root_of
root_of-leaf zero blocks p = refl
root_of-leaf (suc k) blocks p = absurd (omega arith)

-- the root above a height of 0
pub root_of-halves : (h : ℕ) (blocks : List (List ℕ)) → 0 < h
    → root_of h blocks ≡ inner (root_of (h - 1) (take (2 ^ (h - 1)) blocks)) (root_of (h - 1) (drop (2 ^ (h - 1)) blocks))
unfolding root_of
root_of-halves zero blocks p = absurd (omega arith)
root_of-halves (suc k) blocks p = rw sub-one refl

-- the same over the halves that a list of 2 ^ h elements is split into
pub root_of-split : (h : ℕ) (blocks front back : List (List ℕ)) → length blocks ≡ 2 ^ h → 0 < h
    → front ≡ take (length blocks / 2) blocks → back ≡ drop (length blocks / 2) blocks
    → root_of h blocks ≡ inner (root_of (h - 1) front) (root_of (h - 1) back)
root_of-split h blocks front back n p f b =
    let half = half_of_power (length blocks) h n p in
    let split = root_of-halves h blocks p in
    cc
