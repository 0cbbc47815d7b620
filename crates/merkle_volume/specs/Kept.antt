-- Which digests the kept top of a volume keeps.
use Rattle.std.specs.Prelude.{ℕ, ◌≤◌, List}
use Rattle.salus_hash.specs.Hash.{above}
use Rattle.merkle_region.specs.Raised.{IsRaised}

-- the first n of these digests are roots, and what stands above them follows
pub record IsKept (n : ℕ) (digests : List (List ℕ)) : Type 0 where
  pub some : 1 ≤ n
  pub few : n ≤ 16
  pub raised : IsRaised above n digests
