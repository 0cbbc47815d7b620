-- Messages on their way, as they are posted by their sender: those to parties of the volume.
use Rattle.std.specs.Prelude.{Bool, true, List, map, filter}
use Rattle.salus_types.specs.Volume.{Shape}
use Rattle.salus_types.specs.declared.names.Sender.{Sender}
use Rattle.salus_types.specs.declared.names.Sender.TheVariants as sender
use Rattle.salus_types.specs.declared.records.Out.{Out}
use Rattle.salus_model.specs.Following.{Posted}
use Rattle.replica_rules.specs.Rules.{is_node}

-- the client, or a node of the volume
abbrev pub is_party : Shape → Sender → Bool
is_party shape sender.Client = true
is_party shape (sender.Node name) = is_node shape name

abbrev pub post_of : Sender → Out → Posted
post_of from out = record { from = from; to = out.to; bytes = out.bytes }

abbrev pub posts_by : Shape → Sender → List Out → List Posted
posts_by shape from outs = map (λ out. post_of from out) (filter (λ out. is_party shape out.to) outs)
