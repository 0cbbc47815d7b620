use Rattle.std.proofs.Common.{◌≡◌, ◌∙◌, ◌++◌, map, sym, ap, arith}
use Rattle.std.specs.Prelude.{filter, flat_map}
use Rattle.std.specs.List.{range_with_len}
use Rattle.salus_types.specs.Volume.{regions}
use Rattle.salus_types.specs.declared.names.Sender.TheVariants as sender
use Rattle.volume_model.specs.Contents.{all_regions}
use Rattle.volume_model.specs.Groups.{group_of}
use Rattle.posting.specs.Posting.{bytes_to}
use Rattle.volume_restart.specs.Restarting.{shape_of}
use Rattle.session_opening.specs.Answered.{is_waited_for}
use Rattle.session_opening.proofs.Nodes.{filter_flat, groups_more}
use Rattle.session_opening.proofs.waiting.post_to_all.Goals as goal

pub regions-preserved : goal.regions-preserved
regions-preserved c =
    groups_more (λ g. filter (is_waited_for c.args.progress.now) (group_of (shape_of c.args.progress.now) g)) (λ n. bytes_to c.args.bytes.now (sender.Node n)) _ _ _ c.regions.region
    c.regions.invariant c.in_ok-post_to_group.ensures

pub returns : goal.returns
returns c =
    let r = c.args.progress.now in
    let end : c.regions.region ≡ regions (shape_of r) = omega (arith, c.regions-test.false, c.regions-count.ensures.value, ap regions c.geometry.ensures) in
    c.regions.invariant
    ∙ ap (λ k. c.args.outs.now.items ++ map (λ n. bytes_to c.args.bytes.now (sender.Node n)) (flat_map (λ g. filter (is_waited_for r) (group_of (shape_of r) g)) (range_with_len 0 k))) end
    ∙ ap (λ l. c.args.outs.now.items ++ map (λ n. bytes_to c.args.bytes.now (sender.Node n)) l) (sym (filter_flat (is_waited_for r) (λ g. group_of (shape_of r) g) (all_regions (shape_of r))))
