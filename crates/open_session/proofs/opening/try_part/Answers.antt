use Rattle.std.proofs.Common.{◌∙◌}
use Rattle.open_session.proofs.Trying.{can-fits, can_is}
use Rattle.open_session.proofs.opening.try_part.Goals as goal

pub apply-requires : goal.apply-requires
apply-requires c =
    can-fits c.args.region c.args.session c.args.view.now c.args.rec.now
    (can_is c.args.region c.args.session c.number.result c.geometry.result.now c.args.view.now c.args.rec.now c.can_follow.result c.geometry.ensures c.number.ensures c.can_follow.ensures ∙ c.if-not-can_follow.false)
