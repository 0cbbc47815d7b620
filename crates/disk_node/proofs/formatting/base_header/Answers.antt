use Rattle.std.proofs.Common.{◌≡◌, ◌∙◌, ℕ, ◌^◌, ◌≤◌, List, length, replicate, ap, arith}
use Rattle.std.specs.List.{range_with_len}
use Rattle.std.proofs.lemmas.List.{length-replicate}
use Rattle.std.proofs.lemmas.List.FromFn.{length-range_with_len}
use Rattle.std.proofs.lemmas.Nat.{pow_pos}
use Rattle.salus_types.specs.Volume.{regions}
use Rattle.merkle_volume.specs.Top.{top_of}
use Rattle.volume_model.specs.Contents.{all_regions}
use Rattle.disk_node.proofs.Uniform.{header_first}
use Rattle.disk_node.proofs.formatting.base_header.Goals as goal

pub returns-clause-header : goal.returns-clause-header
returns-clause-header c =
    let shape = c.args.geometry.now in
    let n : c.regions-count.result ≡ regions shape = c.regions-count.ensures.value in
    let seen : c.as_slice.result.now ≡ replicate (regions shape) c.args.root =
    c.as_slice.ensures.value ∙ (c.in_ok-roots.ensures.items_if_clones_equal (λ y same. same) ∙ ap (λ (k : ℕ). replicate k c.args.root) n) in
    let long : length c.as_slice.result.now ≡ 2 ^ shape.regions_log = ap (λ (l : List (List ℕ)). length l) seen ∙ length-replicate (regions shape) c.args.root in
    let top : c.top.result ≡ top_of shape.regions_log (replicate (regions shape) c.args.root) = c.top.ensures shape.regions_log long ∙ ap (λ (l : List (List ℕ)). top_of shape.regions_log l) seen in
    let fronts : c.from_vec.result ≡ replicate (regions shape) 0 = c.from_vec.ensures ∙ (c.in_ok-vec.ensures.items_if_clones_equal (λ y same. same) ∙ ap (λ (k : ℕ). replicate k 0) n) in
    let touched : c.from_vec-2.result ≡ all_regions shape = c.from_vec-2.ensures ∙ (c.in_ok-region_numbers.ensures ∙ ap (λ (k : ℕ). range_with_len 0 k) n) in
    header_first shape c.args.region c.args.root c.top.result c.from_vec.result c.from_vec-2.result c.requires.region c.requires.root top fronts touched

pub returns-clause-ranges : goal.returns-clause-ranges
returns-clause-ranges c =
    let shape = c.args.geometry.now in
    let n : ℕ = c.regions-count.result in
    let same : n ≡ regions shape = c.regions-count.ensures.value in
    let few : n ≤ 16 = c.regions-count.ensures.bound in
    let some : 1 ≤ regions shape = pow_pos shape.regions_log in
    let fronts : length c.from_vec.result ≡ n = ap (λ (l : List ℕ). length l) (c.from_vec.ensures ∙ c.in_ok-vec.ensures.items_if_clones_equal (λ y is. is)) ∙ length-replicate n 0 in
    let touched : length c.from_vec-2.result ≡ n = ap (λ (l : List ℕ). length l) (c.from_vec-2.ensures ∙ c.in_ok-region_numbers.ensures) ∙ length-range_with_len 0 n in
    record { first_version = (omega arith, omega arith); few_fronts = (omega arith, omega arith); few_touched = (omega arith, omega arith) }
