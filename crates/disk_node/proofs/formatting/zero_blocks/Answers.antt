use Rattle.std.proofs.Common.{◌≡◌, ◌∙◌, ℕ, ◌≤◌, List, length, sym, ap, subst, rules, arith}
use Rattle.std.proofs.lemmas.List.{length-replicate}
use Rattle.std.proofs.lemmas.Nat.{pow_pos}
use Rattle.salus_types.specs.Volume.{region_blocks}
use Rattle.client_tag.specs.Ranges.{AreBlocks}
use Rattle.disk_node.proofs.Uniform.{zero_block, zero_region, blocks_range}
use Rattle.disk_node.proofs.formatting.zero_blocks.Goals as goal

pub returns-clause-ranges : goal.returns-clause-ranges
returns-clause-ranges c =
    let shape = c.args.geometry.now in
    let whole : c.from_vec-2.result ≡ zero_region shape = search rules in
    let count = c.region_blocks-count.ensures in
    let size = c.block_size-size.ensures in
    let few : region_blocks shape ≤ 1024 = omega (arith, count.value, count.bound) in
    let some : 1 ≤ shape.block = omega (arith, size.value, size.bound.0) in
    let small : shape.block ≤ 4096 = omega (arith, size.value, size.bound.1) in
    subst (λ (b : List (List ℕ)). AreBlocks b) (sym whole) (blocks_range shape few some small)

pub returns-clause-some : goal.returns-clause-some
returns-clause-some c =
    let shape = c.args.geometry.now in
    let whole : c.from_vec-2.result ≡ zero_region shape = search rules in
    let long : length c.from_vec-2.result ≡ region_blocks shape = ap (λ (b : List (List ℕ)). length b) whole ∙ length-replicate (region_blocks shape) (zero_block shape) in
    omega (arith, long, pow_pos shape.height)
