use Rattle.std.proofs.Common.{◌≡◌, ◌++◌, map}
use Rattle.std.specs.Prelude.{filter, flat_map}
use Rattle.std.specs.List.{range_with_len}
use Rattle.salus_types.specs.declared.names.Sender.TheVariants as sender
use Rattle.volume_model.specs.Groups.{group_of}
use Rattle.posting.specs.Posting.{bytes_to}
use Rattle.volume_restart.specs.Restarting.{shape_of}
use Rattle.session_opening.specs.Answered.{is_waited_for}
use Rattle.session_opening.proofs.waiting.post_to_all.Given as goal

abbrev pub invariant-regions : goal.invariant-regions
invariant-regions l =
    l.outs.items ≡ l.fn.outs.items ++ map (λ n. bytes_to l.bytes (sender.Node n)) (flat_map (λ g. filter (is_waited_for l.progress) (group_of (shape_of l.progress) g)) (range_with_len 0 l.region))
