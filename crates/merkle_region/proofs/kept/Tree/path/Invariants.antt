use Rattle.std.proofs.Common.{◌≡◌, ◌-◌, vec_len}
use Rattle.merkle_region.proofs.Gathering.{IsGathered}
use Rattle.merkle_region.proofs.kept.Tree.path.Given as goal

abbrev pub invariant-levels : goal.invariant-levels
invariant-levels l = IsGathered l.self-inside.height l.self-inside.blocks.items l.i l.place l.path.items

abbrev pub decreases-levels : goal.decreases-levels
decreases-levels l = l.height - vec_len l.path
