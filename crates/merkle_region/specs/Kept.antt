-- What a kept tree is seen as, and which digests it keeps.
use Rattle.std.specs.Prelude.{◌≡◌, ℕ, ◌^◌, ◌<◌, ◌≤◌, List, length}
use Rattle.salus_hash.specs.Hash.{leaf, inner}
use Rattle.merkle_region.specs.Tree.{block_at}
use Rattle.merkle_region.specs.Raised.{digest_at, IsRaised}

-- the 2 ^ height blocks of a region
pub record Region : Type 0 where
  pub height : ℕ
  pub blocks : List (List ℕ)

-- these are 2 ^ height blocks, and these digests are their leaves' and all above them
pub record IsKept (height : ℕ) (blocks digests : List (List ℕ)) : Type 0 where
  pub low : height ≤ 12
  pub count : length blocks ≡ 2 ^ height
  pub leaves : (i : ℕ) → i < 2 ^ height → digest_at digests i ≡ leaf (block_at blocks i)
  pub raised : IsRaised inner (2 ^ height) digests
