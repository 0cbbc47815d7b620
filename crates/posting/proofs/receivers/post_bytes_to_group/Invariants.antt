use Rattle.std.proofs.Common.{◌≡◌, ◌++◌, map}
use Rattle.std.specs.List.{range_with_len}
use Rattle.salus_types.specs.declared.names.Sender.TheVariants as sender
use Rattle.posting.specs.Posting.{bytes_to}
use Rattle.posting.proofs.receivers.post_bytes_to_group.Given as goal

abbrev pub invariant-replicas : goal.invariant-replicas
invariant-replicas l =
    l.outs.items ≡ l.initial.outs.items ++ map (λ r. bytes_to l.bytes (sender.Node (record { region = l.region; replica = r }))) (range_with_len 0 l.replica)
