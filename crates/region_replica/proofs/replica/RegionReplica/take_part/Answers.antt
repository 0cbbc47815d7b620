use Rattle.std.proofs.Common.{refl}
use Rattle.region_replica.specs.Serving.{Serving}
use Rattle.region_replica.proofs.PartWays.{part-foreign, part-known, part-next, part-ahead, part-fits, early-own}
use Rattle.region_replica.proofs.replica.RegionReplica.take_part.Goals as goal

pub returns-then-not-is_for-clause-taken : goal.returns-then-not-is_for-clause-taken
returns-then-not-is_for-clause-taken c =
    let kept : Serving = record {
      shape = c.self.inside.geometry;
      region = c.self.inside.region;
      replica = record { session = c.self.inside.session; view = c.self.inside.view.view; early = c.self.inside.early; asks = c.self.inside.asks };
    } in
    part-foreign kept c.args.self.now c.self.view_is c.args.rec c.is_for.result c.is_for.ensures c.if-not-is_for.true

pub returns-then-rec-number-clause-taken : goal.returns-then-rec-number-clause-taken
returns-then-rec-number-clause-taken c =
    let kept : Serving = record {
      shape = c.self.inside.geometry;
      region = c.self.inside.region;
      replica = record { session = c.self.inside.session; view = c.self.inside.view.view; early = c.self.inside.early; asks = c.self.inside.asks };
    } in
    part-known kept c.args.self.now c.self.view_is c.args.rec c.is_for.result c.is_for.ensures c.if-not-is_for.false c.number-number.result c.number-number.ensures c.if-rec-number.true

pub apply_next-requires : goal.apply_next-requires
apply_next-requires c =
    let kept : Serving = record {
      shape = c.self.inside.geometry;
      region = c.self.inside.region;
      replica = record { session = c.self.inside.session; view = c.self.inside.view.view; early = c.self.inside.early; asks = c.self.inside.asks };
    } in
    part-fits kept c.args.self.now c.self.view_is c.args.rec c.is_for.result c.is_for.ensures c.if-not-is_for.false c.self.inside.view.shape c.self.invariant.shape

pub returns-then-rec-number-2-clause-taken : goal.returns-then-rec-number-2-clause-taken
returns-then-rec-number-2-clause-taken c =
    let kept : Serving = record {
      shape = c.self.inside.geometry;
      region = c.self.inside.region;
      replica = record { session = c.self.inside.session; view = c.self.inside.view.view; early = c.self.inside.early; asks = c.self.inside.asks };
    } in
    part-next kept c.args.self.now c.self.view_is c.args.rec c.is_for.result c.is_for.ensures c.if-not-is_for.false c.number-number.result c.number-number.ensures c.if-rec-number.false c.if-rec-number-2.true
    c.self.inside.view.shape c.apply_next.new.view.view c.self.invariant.shape c.apply_next.result (c.apply_next.ensures.answer kept.replica refl) (c.apply_next.ensures.state kept.replica refl)

pub invariant_of-self-2 : goal.invariant_of-self-2
invariant_of-self-2 c =
    let kept : Serving = record {
      shape = c.self.inside.geometry;
      region = c.self.inside.region;
      replica = record { session = c.self.inside.session; view = c.self.inside.view.view; early = c.self.inside.early; asks = c.self.inside.asks };
    } in
    record {
      shape = c.self.invariant.shape;
      own = early-own kept c.args.self.now c.self.view_is c.args.rec c.is_for.result c.is_for.ensures c.if-not-is_for.false c.self.invariant.own c.keep_early.new.early c.keep_early.ensures.either;
    }

pub returns-clause-taken : goal.returns-clause-taken
returns-clause-taken c =
    let kept : Serving = record {
      shape = c.self.inside.geometry;
      region = c.self.inside.region;
      replica = record { session = c.self.inside.session; view = c.self.inside.view.view; early = c.self.inside.early; asks = c.self.inside.asks };
    } in
    part-ahead kept c.args.self.now c.self.view_is c.args.rec c.is_for.result c.is_for.ensures c.if-not-is_for.false c.number-number.result c.number-number.ensures c.if-rec-number.false c.if-rec-number-2.false
    c.keep_early.new.early c.keep_early.result (c.keep_early.ensures.answer kept.replica refl) (c.keep_early.ensures.state kept.replica refl)
