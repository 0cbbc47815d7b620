use Rattle.std.proofs.Common.{subst}
use Rattle.std.proofs.lemmas.Option.{MatchOption-at_some}
use Rattle.merkle_region.specs.Tree.{IsAmong}
use Rattle.volume_model.specs.Recovering.{blocks_up_to}
use Rattle.restart_pool.proofs.Gathered.{whole-more}
use Rattle.restart_pool.proofs.pool.Pool.contents.Goals as goal

pub regions-preserved : goal.regions-preserved
regions-preserved c =
    let kept = c.args.self.now in
    let whole = c.in-Some.whole in
    let got = MatchOption-at_some _ _ whole c.in-Some.is c.in_ok-whole.ensures in
    whole-more kept c.args.session c.args.fronts.now c.regions.region c.regions.contents c.add_region.new.contents whole c.regions.invariant
    (subst (λ x. IsAmong whole.blocks (blocks_up_to kept.shape kept.held c.args.session c.regions.region x)) c.front_of.ensures got.0) got.1
    c.in_ok-add_region-in-Some.ensures.roots c.in_ok-add_region-in-Some.ensures.blocks
