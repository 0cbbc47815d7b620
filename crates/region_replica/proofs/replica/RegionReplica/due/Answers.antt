use Rattle.std.proofs.Common.{◌∙◌, ap}
use Rattle.replica_rules.specs.Replicas.{answer_to}
use Rattle.region_replica.specs.Serving.{Serving}
use Rattle.region_replica.proofs.DueAsks.{none-due, first-due}
use Rattle.region_replica.proofs.replica.RegionReplica.due.Goals as goal

pub returns-in-None-clause-due : goal.returns-in-None-clause-due
returns-in-None-clause-due c =
    let kept : Serving = record {
      shape = c.self.inside.geometry;
      region = c.self.inside.region;
      replica = record { session = c.self.inside.session; view = c.self.inside.view.view; early = c.self.inside.early; asks = c.self.inside.asks };
    } in
    none-due kept c.args.self.now c.self.view_is c.number.result c.number.ensures c.in-None.ensures.ask

pub returns-in_ok-answer-in-Some-clause-due : goal.returns-in_ok-answer-in-Some-clause-due
returns-in_ok-answer-in-Some-clause-due c =
    let kept : Serving = record {
      shape = c.self.inside.geometry;
      region = c.self.inside.region;
      replica = record { session = c.self.inside.session; view = c.self.inside.view.view; early = c.self.inside.early; asks = c.self.inside.asks };
    } in
    first-due kept c.args.self.now c.self.view_is c.number.result c.number.ensures c.in-Some.ask c.in_ok-answer-in-Some.answer c.remove.new.self c.in-Some.ensures.rising c.in-Some.ensures.ask
    (c.in_ok-answer-in-Some.ensures ∙ ap (λ shape. answer_to shape c.self.inside.view.view c.in-Some.ask) c.self.invariant.shape) c.remove.ensures
