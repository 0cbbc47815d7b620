use Rattle.std.proofs.Common.{◌∙◌}
use Rattle.region_replica.specs.Serving.{Serving}
use Rattle.region_replica.proofs.KeptTurns.{take-none, take-accepted, take-refused, others-own, kept-fits}
use Rattle.region_replica.proofs.replica.RegionReplica.take_kept.Goals as goal

pub apply_kept-requires : goal.apply_kept-requires
apply_kept-requires c =
    let kept : Serving = record {
      shape = c.self.inside.geometry;
      region = c.self.inside.region;
      replica = record { session = c.self.inside.session; view = c.self.inside.view.view; early = c.self.inside.early; asks = c.self.inside.asks };
    } in
    kept-fits kept c.args.self.now c.self.view_is c.number-number.result c.number-number.ensures c.in-Some.ensures.kept c.self.invariant.own c.self.inside.view.shape c.self.invariant.shape c.in-Some.rec.now c.in-Some.ensures.part

pub returns-in-None-clause-taken : goal.returns-in-None-clause-taken
returns-in-None-clause-taken c =
    let kept : Serving = record {
      shape = c.self.inside.geometry;
      region = c.self.inside.region;
      replica = record { session = c.self.inside.session; view = c.self.inside.view.view; early = c.self.inside.early; asks = c.self.inside.asks };
    } in
    take-none kept c.args.self.now c.self.view_is c.number-number.result c.number-number.ensures c.in-None.ensures.kept c.self.invariant.own c.in-None.ensures.part

pub invariant_of-self-then-branch : goal.invariant_of-self-then-branch
invariant_of-self-then-branch c =
    let kept : Serving = record {
      shape = c.self.inside.geometry;
      region = c.self.inside.region;
      replica = record { session = c.self.inside.session; view = c.self.inside.view.view; early = c.self.inside.early; asks = c.self.inside.asks };
    } in
    record {
      shape = c.apply_kept.ensures.shape ∙ c.self.invariant.shape;
      own = others-own kept c.args.self.now c.self.view_is c.number-number.result c.number-number.ensures c.in-Some.ensures.kept c.self.invariant.own c.apply_kept.new.view.view c.take.new.self c.take.ensures.others;
    }

pub returns-then-branch-clause-taken : goal.returns-then-branch-clause-taken
returns-then-branch-clause-taken c =
    let kept : Serving = record {
      shape = c.self.inside.geometry;
      region = c.self.inside.region;
      replica = record { session = c.self.inside.session; view = c.self.inside.view.view; early = c.self.inside.early; asks = c.self.inside.asks };
    } in
    take-accepted kept c.args.self.now c.self.view_is c.number-number.result c.number-number.ensures c.in-Some.ensures.kept c.self.invariant.own c.self.inside.view.shape c.self.invariant.shape c.in-Some.rec.now c.in-Some.ensures.part c.apply_kept.new.view.view c.take.new.self c.in_ok-apply_kept-in-Some.field-0 c.in_ok-apply_kept-in-Some.ensures.accepted c.in_ok-apply_kept-in-Some.ensures.after c.take.ensures.others c.take.result c.if-branch.true c.take.ensures.taken

pub invariant_of-self-in-Some : goal.invariant_of-self-in-Some
invariant_of-self-in-Some c =
    let kept : Serving = record {
      shape = c.self.inside.geometry;
      region = c.self.inside.region;
      replica = record { session = c.self.inside.session; view = c.self.inside.view.view; early = c.self.inside.early; asks = c.self.inside.asks };
    } in
    record {
      shape = c.apply_kept.ensures.shape ∙ c.self.invariant.shape;
      own = others-own kept c.args.self.now c.self.view_is c.number-number.result c.number-number.ensures c.in-Some.ensures.kept c.self.invariant.own c.apply_kept.new.view.view c.take-in-Some.new.self c.take-in-Some.ensures.others;
    }

pub returns-else-branch-clause-taken : goal.returns-else-branch-clause-taken
returns-else-branch-clause-taken c =
    let kept : Serving = record {
      shape = c.self.inside.geometry;
      region = c.self.inside.region;
      replica = record { session = c.self.inside.session; view = c.self.inside.view.view; early = c.self.inside.early; asks = c.self.inside.asks };
    } in
    take-refused kept c.args.self.now c.self.view_is c.number-number.result c.number-number.ensures c.in-Some.ensures.kept c.self.invariant.own c.self.inside.view.shape c.self.invariant.shape c.in-Some.rec.now c.in-Some.ensures.part c.apply_kept.new.view.view c.take-in-Some.new.self c.in_ok-apply_kept-in-Some.field-0 c.in_ok-apply_kept-in-Some.ensures.accepted c.in_ok-apply_kept-in-Some.ensures.after c.take-in-Some.ensures.others c.if-branch.false
