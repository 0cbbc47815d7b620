-- Which memory of the rules a session of the program stands for.
use Rattle.std.specs.Prelude.{◌≡◌, ℕ, Option, None, Some}
use Rattle.salus_types.specs.Volume.{Shape}
use Rattle.replica_rules.specs.Nodes.{Memory}
use Rattle.pipelined_commit.specs.Standing.{StandsFor as LeaderStands}
use Rattle.open_session.specs.Kept.{KeptSession}

-- the same replica, a leader that stands for the other, the same parts, and what is known of the session
pub record StandsFor (kept : KeptSession) (m : Memory) : Type 0 where
  pub replica : kept.replica ≡ m.replica
  pub leader : LeaderStands kept.leader m.leader
  pub parts : kept.parts ≡ m.parts
  pub begun : kept.begun ≡ m.begun
  pub whole : kept.whole ≡ m.whole

-- the session of a node of region g that has that memory; none where it has none
abbrev pub IsOpened : Shape → ℕ → Option KeptSession → Option Memory → Type 0
IsOpened shape g None None = Unit {0}
IsOpened shape g (Some kept) (Some m) = (kept.shape ≡ shape) × (kept.region ≡ g) × StandsFor kept m
IsOpened shape g None (Some m) = ⊥
IsOpened shape g (Some kept) None = ⊥
