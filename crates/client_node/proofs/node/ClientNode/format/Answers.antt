use Rattle.std.proofs.Common.{sym, subst}
use Rattle.salus_types.specs.Volume.{Shape}
use Rattle.volume_model.specs.Contents.{zero_contents}
use Rattle.client_rules.specs.Opening.{new_serving}
use Rattle.serving_client.specs.Standing.{StandsFor}
use Rattle.client_node.proofs.EqualBlocks.{zero_count}
use Rattle.client_node.proofs.node.ClientNode.format.Goals as goal

pub returns-clause-client : goal.returns-clause-client
returns-clause-client c = λ volume geometry key.
    subst (λ (shape : Shape). StandsFor volume c.in_ok-client.client (new_serving shape 1 0 (zero_contents shape))) (sym geometry)
    (c.in_ok-client.ensures.stands volume (zero_contents c.args.geometry) geometry key (zero_count c.args.geometry) c.in_ok-roots.ensures.roots)
