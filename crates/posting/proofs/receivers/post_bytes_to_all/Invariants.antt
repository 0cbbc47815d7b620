use Rattle.std.proofs.Common.{◌≡◌, ◌++◌, map}
use Rattle.std.specs.Prelude.{flat_map}
use Rattle.std.specs.List.{range_with_len}
use Rattle.salus_types.specs.declared.names.Sender.TheVariants as sender
use Rattle.volume_model.specs.Groups.{group_of}
use Rattle.posting.specs.Posting.{bytes_to}
use Rattle.posting.proofs.receivers.post_bytes_to_all.Given as goal

abbrev pub invariant-regions : goal.invariant-regions
invariant-regions l =
    l.outs.items ≡ l.initial.outs.items ++ map (λ name. bytes_to l.bytes (sender.Node name)) (flat_map (λ g. group_of l.geometry g) (range_with_len 0 l.region))
