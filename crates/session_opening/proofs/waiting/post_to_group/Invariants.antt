use Rattle.std.proofs.Common.{◌≡◌, ◌++◌, map}
use Rattle.std.specs.Prelude.{filter}
use Rattle.std.specs.List.{range_with_len}
use Rattle.salus_types.specs.declared.names.Sender.TheVariants as sender
use Rattle.posting.specs.Posting.{bytes_to}
use Rattle.session_opening.specs.Answered.{is_waited_for}
use Rattle.session_opening.proofs.waiting.post_to_group.Given as goal

abbrev pub invariant-replicas : goal.invariant-replicas
invariant-replicas l =
    l.outs.items ≡ l.fn.outs.items ++ map (λ n. bytes_to l.bytes (sender.Node n)) (filter (is_waited_for l.progress) (map (λ r. record { region = l.region; replica = r }) (range_with_len 0 l.replica)))
