-- The shape of a volume, and its limits.
use Rattle.std.specs.Prelude.{ℕ, ◌*◌, ◌^◌, ◌≤◌}

-- 2^regions_log regions, each of 2^height blocks of so many bytes, and a group of so many replicas for each
pub record Shape : Type 0 where
  pub regions_log : ℕ
  pub height : ℕ
  pub block : ℕ
  pub replicas : ℕ

abbrev pub regions : Shape → ℕ
regions s = 2 ^ s.regions_log

abbrev pub region_blocks : Shape → ℕ
region_blocks s = 2 ^ s.height

abbrev pub blocks : Shape → ℕ
blocks s = regions s * region_blocks s

abbrev pub nodes : Shape → ℕ
nodes s = regions s * s.replicas

-- how many bytes a block may have
abbrev pub IsBlock : ℕ → Type 0
IsBlock n = (1 ≤ n) × (n ≤ 4096)

-- how many replicas a group may have
abbrev pub IsReplicas : ℕ → Type 0
IsReplicas n = (1 ≤ n) × (n ≤ 5)

-- within the limits
pub record IsVolume (s : Shape) : Type 0 where
  pub few_regions : s.regions_log ≤ 4
  pub low : s.height ≤ 10
  pub small_blocks : IsBlock s.block
  pub small_groups : IsReplicas s.replicas
  pub small : blocks s * s.block ≤ 1048576
