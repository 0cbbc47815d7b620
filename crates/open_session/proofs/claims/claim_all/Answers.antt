use Rattle.std.proofs.Common.{◌≡◌, ◌∙◌, [], subst, sym}
use Rattle.replica_rules.specs.Leading.{Leader, all_certified, front_after}
use Rattle.pipelined_commit.specs.Standing.{StandsFor, IsFirst}
use Rattle.open_session.specs.Claiming.{with_front}
use Rattle.open_session.proofs.ClaimWay.{way-more, way-stands, way-sent}
use Rattle.open_session.proofs.claims.claim_all.Goals as goal

pub claims-preserved : goal.claims-preserved
claims-preserved c =
    let shape = c.claims.invariant.place.0 ∙ c.requires in
    record {
      place = (c.in-Some.ensures.place.0 ∙ c.claims.invariant.place.0, c.in-Some.ensures.place.1 ∙ c.claims.invariant.place.1);
      way = λ leader stands.
          let way = c.claims.invariant.way leader stands in
          let here : Leader = with_front c.claims.leader.front leader in
          way-more c.args.geometry.now c.args.session leader c.args.outs.now.items c.claims.outs.items c.claims.leader way c.in-Some.front c.advance.new.self c.post_claims.new.outs.items
          (subst (λ sh. IsFirst sh here c.in-Some.front) shape (c.in-Some.ensures.first here way.stands))
          c.in-Some.ensures.raised.1 (c.in-Some.ensures.front here way.stands) c.in_ok-post_claims.ensures;
    }

pub returns-clause-front : goal.returns-clause-front
returns-clause-front c leader stands =
    let shape = c.claims.invariant.place.0 ∙ c.requires in
    let way = c.claims.invariant.way leader stands in
    let here : Leader = with_front c.claims.leader.front leader in
    let none = subst (λ sh. all_certified sh here ≡ []) shape (c.in_default.ensures.first here way.stands) in
    subst (λ k. StandsFor k (with_front (front_after leader.front (all_certified c.args.geometry.now leader)) leader)) (sym (c.in_default.ensures.none))
    (way-stands c.args.geometry.now c.args.session leader c.args.outs.now.items c.claims.outs.items c.claims.leader way none)

pub returns-clause-outs : goal.returns-clause-outs
returns-clause-outs c leader stands =
    let shape = c.claims.invariant.place.0 ∙ c.requires in
    let way = c.claims.invariant.way leader stands in
    let here : Leader = with_front c.claims.leader.front leader in
    let none = subst (λ sh. all_certified sh here ≡ []) shape (c.in_default.ensures.first here way.stands) in
    way-sent c.args.geometry.now c.args.session leader c.args.outs.now.items c.claims.outs.items c.claims.leader way none
