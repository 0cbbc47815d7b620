use Rattle.salus_types.specs.declared.names.Sender.TheVariants as sender
use Rattle.posting.specs.Posting.{bytes_to}
use Rattle.session_opening.specs.Answered.{is_waited_for}
use Rattle.session_opening.proofs.Nodes.{passed_more}
use Rattle.session_opening.proofs.waiting.post_to_group.Goals as goal

pub replicas-preserved : goal.replicas-preserved
replicas-preserved c =
    passed_more (is_waited_for c.args.progress.now) (λ n. bytes_to c.args.bytes.now (sender.Node n)) (λ r. record { region = c.args.region; replica = r }) _ _ _ c.replicas.replica
    c.replicas.invariant c.in_ok-post_to_node.ensures
