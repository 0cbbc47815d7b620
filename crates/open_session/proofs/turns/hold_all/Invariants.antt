use Rattle.std.proofs.Common.{take}
use Rattle.replica_rules.specs.Leading.{noted_with}
use Rattle.pipelined_commit.specs.Standing.{Follows, SamePlace}
use Rattle.open_session.proofs.turns.hold_all.Given as goal

abbrev pub invariant-parts : goal.invariant-parts
invariant-parts l = record {
  place : SamePlace l.initial.leader l.leader;
  noted : Follows (λ x. record x { noted = noted_with l.initial.leader.region x.noted (take l.rec-index l.parts) }) l.initial.leader l.leader;
}
