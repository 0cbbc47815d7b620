-- That the abstract client goes on: lists only grow at their ends, and what is known stays so.
use Rattle.std.specs.Prelude.{◌≡◌, ℕ, List, ◌++◌}
use Rattle.law_prefix.specs.Numbers.{Mem}
use Rattle.law_prefix.specs.World as abstract

pub record GoesOn (c d : abstract.Client) : Type 0 where
  pub lists : (e : ℕ) → Mem e c.known → (more : List (List ℕ)) × (d.lists e ≡ c.lists e ++ more)
  pub starts : (e : ℕ) → Mem e c.known → d.starts e ≡ c.starts e
  pub known : (e : ℕ) → Mem e c.known → Mem e d.known
