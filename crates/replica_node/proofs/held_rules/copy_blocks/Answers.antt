use Rattle.std.proofs.Common.{◌≡◌, ◌≤◌, ◌<◌, ◌∙◌, List, ℕ, true, length, sym, subst}
use Rattle.salus_types.specs.Volume.{Shape, IsBlock, region_blocks}
use Rattle.client_tag.specs.Ranges.{AreBlocks}
use Rattle.holding_model.specs.Fitting.{has_shape}
use Rattle.replica_node.proofs.Holding.{shape_sized}
use Rattle.replica_node.proofs.Staging.{few_blocks, shape_count}
use Rattle.replica_node.proofs.held_rules.copy_blocks.Goals as goal

pub returns-clause-ranges : goal.returns-clause-ranges
returns-clause-ranges c =
    let shape = c.args.view.now.shape in
    let blocks = c.args.view.now.view.blocks in
    let shaped : has_shape shape blocks ≡ true = c.blocks-2.ensures.shape in
    let few : region_blocks shape ≤ 1024 =
    subst (λ (s : Shape). region_blocks s ≤ 1024) c.geometry-geometry.ensures (subst (λ (n : ℕ). n ≤ 1024) c.region_blocks-count.ensures.value c.region_blocks-count.ensures.bound) in
    let small : IsBlock shape.block = subst (λ (s : Shape). IsBlock s.block) c.geometry-geometry.ensures (subst IsBlock c.block_size-size.ensures.value c.block_size-size.ensures.bound) in
    subst AreBlocks (sym (c.in_ok-copy.ensures ∙ c.blocks-2.ensures.value)) (few_blocks shape blocks shaped few (shape_count shape blocks shaped) small)

pub returns-clause-some : goal.returns-clause-some
returns-clause-some c =
    subst (λ (l : List (List ℕ)). 0 < length l) (sym (c.in_ok-copy.ensures ∙ c.blocks-2.ensures.value)) (shape_sized c.args.view.now.shape c.args.view.now.view.blocks c.blocks-2.ensures.shape).some
