use Rattle.std.proofs.Common.{◌-◌, ◌^◌}
use Rattle.replica_rules.specs.Leading.{Leader}
use Rattle.pipelined_commit.specs.Standing.{StandsFor, SamePlace}
use Rattle.open_session.specs.Claiming.{IsOnTheWay}
use Rattle.open_session.proofs.claims.claim_all.Given as goal

abbrev pub invariant-claims : goal.invariant-claims
invariant-claims l = record {
  place : SamePlace l.initial.leader l.leader;
  way : (leader : Leader) → StandsFor l.initial.leader leader → IsOnTheWay l.geometry l.session leader l.initial.outs.items l.outs.items l.leader;
}

abbrev pub decreases-claims : goal.decreases-claims
decreases-claims l = 2 ^ 64 - l.leader.front
