use Rattle.std.proofs.Common.{◌≡◌, ◌∙◌, ◌^◌, replicate, ap, ap₂, sym}
use Rattle.salus_types.specs.Volume.{Shape}
use Rattle.merkle_region.specs.Tree.{root_of}
use Rattle.client_node.proofs.EqualBlocks.{zero_roots_are}
use Rattle.client_node.proofs.zeros.zero_roots.Goals as goal

pub returns-clause-roots : goal.returns-clause-roots
returns-clause-roots c =
    let shape : Shape = c.args.geometry.now in
    let block : c.in_ok-block.block.items ≡ replicate c.block_size.result 0 = c.in_ok-block.ensures.items_if_clones_equal (λ y same. same) in
    let zeros : c.as_slice.result.now ≡ replicate shape.block 0 = c.as_slice.ensures.value ∙ block ∙ ap (λ n. replicate n 0) c.block_size.ensures.value in
    let root : c.root_of_equal-root.result ≡ root_of shape.height (replicate (2 ^ shape.height) (replicate shape.block 0)) =
    c.root_of_equal-root.ensures ∙ ap₂ (λ h b. root_of h (replicate (2 ^ h) b)) c.height.ensures.value zeros in
    let roots : c.in_ok-roots.roots.items ≡ replicate c.regions.result c.root_of_equal-root.result = c.in_ok-roots.ensures.items_if_clones_equal (λ y same. same) in
    zero_roots_are shape c.root_of_equal-root.result root ∙ ap (λ n. replicate n c.root_of_equal-root.result) (sym c.regions.ensures.value) ∙ sym roots ∙ sym c.from_vec.ensures
