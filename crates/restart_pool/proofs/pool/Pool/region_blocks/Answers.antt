use Rattle.std.proofs.lemmas.Result.{IfOk-weaker}
use Rattle.restart_pool.specs.Following.{seen}
use Rattle.restart_pool.proofs.Single.{found-up_to}
use Rattle.restart_pool.proofs.pool.Pool.region_blocks.Goals as goal

pub returns : goal.returns
returns c =
    IfOk-weaker c.chain_to.result _ _
    (λ found h. found-up_to c.args.self.now c.args.session c.args.region c.args.x (seen c.lane-lane.result) c.lane-lane.ensures.seen found h) c.chain_to.ensures
