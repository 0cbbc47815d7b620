use Rattle.std.proofs.Common.{◌≡◌, take}
use Rattle.merkle_volume.proofs.kept.spread.Given as goal

abbrev pub invariant-roots : goal.invariant-roots
invariant-roots l = take l.i l.digests ≡ take l.i l.roots
