use Rattle.std.proofs.Common.{◌∙◌, subst, take}
use Rattle.salus_types.specs.declared.records.Header.{Header}
use Rattle.std.proofs.Common.{List}
use Rattle.replica_rules.specs.Leading.{noted_with}
use Rattle.pipelined_commit.specs.Standing.{StandsFor}
use Rattle.open_session.proofs.Noting.{noted-more}
use Rattle.open_session.proofs.turns.hold_all.Goals as goal

pub parts-preserved : goal.parts-preserved
parts-preserved c = record {
  place = (c.hold.ensures.place.0 ∙ c.parts.invariant.place.0, c.hold.ensures.place.1 ∙ c.parts.invariant.place.1);
  noted = λ leader stands.
      let g = c.args.leader.now.region in
      let i = c.parts.rec-index in
      subst (λ (l : List Header). StandsFor c.hold.new.self (record leader { noted = l }))
      (noted-more g c.parts.leader.region leader.noted c.args.parts.now i c.rec-item.result c.parts.invariant.place.1 c.parts-test.true c.rec-item.is)
      (c.hold.ensures.noted (record leader { noted = noted_with g leader.noted (take i c.args.parts.now) }) (c.parts.invariant.noted leader stands));
}
