-- What a kept tree's digests are: the roots of the parts below them.
use Rattle.std.proofs.Common.{◌≡◌, ℕ, zero, suc, ◌+◌, ◌*◌, ◌-◌, ◌^◌, ◌<◌, ◌≤◌, ◌∙◌, List, [], length, take, drop, get_or, refl, sym, ap, arith}
use Rattle.std.proofs.Math.Pow.{pow_mono}
use Rattle.std.proofs.lemmas.Nat.{pow_pos}
use Rattle.std.proofs.lemmas.List.{get_or-take, get_or-drop}
use Rattle.salus_hash.specs.Hash.{leaf, inner}
use Rattle.merkle_region.specs.Tree.{root_of, block_at}
use Rattle.merkle_region.specs.Raised.{digest_at, IsRaised}
use Rattle.merkle_region.specs.Kept.{IsKept}
use Rattle.merkle_region.proofs.Standing.{part, standing, standing_top}

root_step : (l : ℕ) (blocks : List (List ℕ)) → root_of (suc l) blocks ≡ inner (root_of l (take (2 ^ l) blocks)) (root_of l (drop (2 ^ l) blocks))
unfolding root_of
root_step l blocks = refl

root_leaf : (i : ℕ) (blocks : List (List ℕ)) → root_of 0 (part 0 i blocks) ≡ leaf (block_at blocks i)
unfolding root_of
root_leaf i blocks =
    let e : i * 1 + 0 ≡ i = omega arith in
    ap leaf (get_or-take 1 (drop (i * 1) blocks) 0 [] (omega arith) ∙ (get_or-drop (i * 1) blocks 0 [] ∙ ap (block_at blocks) e))

module _ (height : ℕ) (blocks digests : List (List ℕ)) (kept : IsKept height blocks digests) where
  leaf_kept : (i : ℕ) → i < 2 ^ height → digest_at digests i ≡ root_of 0 (part 0 i blocks)
  leaf_kept i within = kept.leaves i within ∙ sym (root_leaf i blocks)

  pub kept_at : (l m j place : ℕ) → l + m ≡ height → j < 2 ^ m → place + 2 * 2 ^ m ≡ 2 * 2 ^ height + j → digest_at digests place ≡ root_of l (part l j blocks)
  kept_at = standing root_of inner root_step height blocks digests kept.raised leaf_kept

  pub kept_root : (place : ℕ) → place + 2 ≡ 2 * 2 ^ height → digest_at digests place ≡ root_of height blocks
  kept_root place at = standing_top root_of inner root_step height blocks digests kept.raised leaf_kept place kept.count at

  pub room_for_all : 2 * 2 ^ height ≤ length digests + 1
  room_for_all = kept.raised.room

  pub some_blocks : 0 < length blocks
  some_blocks = omega (arith, kept.count, pow_pos height)

  pub few_blocks : length blocks ≤ 4096
  few_blocks = let most : 2 ^ height ≤ 2 ^ 12 = pow_mono kept.low in omega (arith, kept.count)
