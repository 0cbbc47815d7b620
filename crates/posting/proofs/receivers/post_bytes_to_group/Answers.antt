use Rattle.std.proofs.Common.{arith}
use Rattle.salus_types.specs.declared.names.Sender.TheVariants as sender
use Rattle.posting.specs.Posting.{bytes_to}
use Rattle.posting.proofs.Ranged.{posted-more, posted-all}
use Rattle.posting.proofs.receivers.post_bytes_to_group.Goals as goal

pub replicas-preserved : goal.replicas-preserved
replicas-preserved c =
    posted-more _ _ _ (λ r. bytes_to c.args.bytes.now (sender.Node (record { region = c.args.region; replica = r }))) c.replicas.replica c.replicas.invariant c.in_ok-post_bytes.ensures

pub returns : goal.returns
returns c = posted-all _ _ c.replicas.outs.items (λ r. record { region = c.args.region; replica = r }) (λ name. bytes_to c.args.bytes.now (sender.Node name)) c.replicas.replica c.args.geometry.now.replicas (omega arith) c.replicas.invariant
