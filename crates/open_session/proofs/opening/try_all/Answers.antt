use Rattle.std.proofs.Common.{◌∙◌, refl}
use Rattle.open_session.proofs.Trying.{tried-start, tried-next, tried-end}
use Rattle.open_session.proofs.opening.try_all.Goals as goal

pub parts-init : goal.parts-init
parts-init c = record { shape = refl; left = tried-start c.args.region c.args.session c.args.view.now c.args.parts.now c.new-tried.result.items c.new-tried.ensures.items }

pub parts-preserved : goal.parts-preserved
parts-preserved c = record {
  shape = c.try_next.ensures.shape ∙ c.parts.invariant.shape;
  left = tried-next c.args.region c.args.session _ c.parts.view c.try_next.new.view c.parts.tried.items c.args.parts.now c.parts.rec-index c.rec-item.result c.parts-test.true c.rec-item.is c.parts.invariant.left
      c.try_next.ensures.shape c.try_next.new.tried.items c.in_ok-try_next.ensures.tried;
}

pub returns-clause-tried : goal.returns-clause-tried
returns-clause-tried c = tried-end c.args.region c.args.session c.args.view.now c.parts.view c.parts.tried.items c.args.parts.now c.parts.rec-index c.parts-test.false c.parts.invariant.left
