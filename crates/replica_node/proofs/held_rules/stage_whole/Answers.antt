use Rattle.std.proofs.Common.{◌≡◌, true, rules}
use Rattle.holding_model.specs.Fitting.{has_shape}
use Rattle.merkle_region.specs.Tree.{root_of}
use Rattle.replica_rules.specs.Rules.{staged, staged_whole}
use Rattle.replica_node.proofs.Staging.{same_says, whole_staged}
use Rattle.replica_node.proofs.held_rules.stage_whole.Goals as goal

pub returns-clause-says : goal.returns-clause-says
returns-clause-says c =
    let shape = c.args.geometry.now in
    let base = c.args.base in
    let shaped : has_shape shape base.blocks ≡ true = search rules in
    let same : root_of shape.height base.blocks ≡ base.rec.header.root = search rules in
    same_says c.stage.result (λ node. node) (λ node. staged_whole shape node base) (λ node. staged node base.rec base.blocks) (λ node. whole_staged shape node base shaped same) c.stage.ensures.says
