use Rattle.std.proofs.Common.{◌∙◌, ap}
use Rattle.replica_rules.specs.Replicas.{answer_to}
use Rattle.region_replica.specs.Serving.{Serving}
use Rattle.region_replica.proofs.DueAsks.{ask-foreign, ask-answered, ask-kept}
use Rattle.region_replica.proofs.replica.RegionReplica.take_ask.Goals as goal

pub returns-then-not-is_asked_here-clause-taken : goal.returns-then-not-is_asked_here-clause-taken
returns-then-not-is_asked_here-clause-taken c =
    let kept : Serving = record {
      shape = c.self.inside.geometry;
      region = c.self.inside.region;
      replica = record { session = c.self.inside.session; view = c.self.inside.view.view; early = c.self.inside.early; asks = c.self.inside.asks };
    } in
    ask-foreign kept c.args.self.now c.self.view_is c.args.ask c.is_asked_here.result c.is_asked_here.ensures c.if-not-is_asked_here.true

pub returns-then-ask-number-clause-taken : goal.returns-then-ask-number-clause-taken
returns-then-ask-number-clause-taken c =
    let kept : Serving = record {
      shape = c.self.inside.geometry;
      region = c.self.inside.region;
      replica = record { session = c.self.inside.session; view = c.self.inside.view.view; early = c.self.inside.early; asks = c.self.inside.asks };
    } in
    ask-answered kept c.args.self.now c.self.view_is c.args.ask c.is_asked_here.result c.is_asked_here.ensures c.if-not-is_asked_here.false (rw (← c.number.ensures) c.if-ask-number.true)
    c.in_ok-answer.answer (c.in_ok-answer.ensures ∙ ap (λ shape. answer_to shape c.self.inside.view.view c.args.ask) c.self.invariant.shape)

pub returns-clause-taken : goal.returns-clause-taken
returns-clause-taken c =
    let kept : Serving = record {
      shape = c.self.inside.geometry;
      region = c.self.inside.region;
      replica = record { session = c.self.inside.session; view = c.self.inside.view.view; early = c.self.inside.early; asks = c.self.inside.asks };
    } in
    ask-kept kept c.args.self.now c.self.view_is c.args.ask c.is_asked_here.result c.is_asked_here.ensures c.if-not-is_asked_here.false (rw (← c.number.ensures) c.if-ask-number.false)
    c.keep.new.self c.in_ok-keep.ensures.ok
